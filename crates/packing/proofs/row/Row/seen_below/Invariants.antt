use Rattle.std.specs.Prelude.{◌≡◌}
use Rattle.packing.specs.Bench.{seen}
use Rattle.packing.specs.Lent.{row_of}
use Rattle.packing.proofs.row.Row.seen_below.Given as goal

abbrev pub invariant-loop-a : goal.invariant-loop-a
invariant-loop-a l = seen (row_of l.self) l.t l.n ≡ seen (row_of l.self) l.t l.a
