use Rattle.std.specs.Prelude.{◌≡◌}
use Rattle.packing.specs.Bench.{used_b}
use Rattle.packing.specs.Lent.{as_kind, cells}
use Rattle.packing.proofs.bench.Bench.is_used.Given as goal

abbrev pub invariant-loop-n : goal.invariant-loop-n
invariant-loop-n l = used_b (cells l.self) (as_kind l.kind) l.b l.s ≡ used_b (cells l.self) (as_kind l.kind) l.b l.n
