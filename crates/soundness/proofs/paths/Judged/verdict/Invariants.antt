use Rattle.std.proofs.Common.{◌≡◌, ◌<◌, ℕ, None}
use Rattle.soundness.specs.Laws.Judged.{fault_at}
use Rattle.soundness.proofs.paths.Judged.verdict.Given as goal

-- the states below s have no fault
abbrev pub invariant-loop-s : goal.invariant-loop-s
invariant-loop-s l = (k : ℕ) → k < l.s → fault_at l.self k ≡ None
