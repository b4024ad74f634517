use Rattle.std.proofs.Common.{◌≡◌, ◌<◌, ℕ, suc, true}
use Rattle.tables.specs.Laws.Begins.{Begins}
use Rattle.soundness.specs.Laws.Judged.{kept_at}
use Rattle.soundness.proofs.paths.Row.lowest_failing.Given as goal

-- the right side of rule i + 1 begins at `from`, and the rules up to i are kept
abbrev pub invariant-loop-i : goal.invariant-loop-i
invariant-loop-i l = record {
  begins : Begins l.grammar.lens.now l.i l.from;
  kept : (k : ℕ) → k < l.i → kept_at l.self.paths.judged l.self.state (suc k) ≡ true;
}
