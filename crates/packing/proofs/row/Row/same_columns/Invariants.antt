use Rattle.std.specs.Prelude.{◌≡◌, ◌<◌, ℕ}
use Rattle.packing.specs.Lent.{row_of}
use Rattle.packing.proofs.row.Row.same_columns.Given as goal

abbrev pub invariant-loop-a : goal.invariant-loop-a
invariant-loop-a l = (k : ℕ) → k < l.a → row_of l.self k ≡ row_of l.other k
