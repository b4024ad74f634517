use Rattle.std.specs.Prelude.{◌≡◌, ◌<◌, ℕ, false}
use Rattle.packing.specs.Rows.{same_row}
use Rattle.packing.specs.Lent.{asked}
use Rattle.packing.proofs.row.Row.first_same.Given as goal

abbrev pub invariant-loop-j : goal.invariant-loop-j
invariant-loop-j l = (k : ℕ) → k < l.j → same_row (asked l.self.job) k l.self.state ≡ false
