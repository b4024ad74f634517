use Rattle.packing.specs.Gathered.{Marked}
use Rattle.packing.specs.Lent.{as_kind, cells}
use Rattle.packing.proofs.bench.Bench.mark_used.Given as goal

abbrev pub invariant-loop-n : goal.invariant-loop-n
invariant-loop-n l = Marked (cells l.self) (as_kind l.kind) l.n l.used
