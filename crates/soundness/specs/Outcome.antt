-- What the check says, for all inputs.
use Rattle.std.specs.Prelude.{ℕ, cond, List, [], eqb, ℤ}
use Rattle.tables.specs.declared.Sizes.{Sizes}
use Rattle.tables.specs.Said.{Said, OK, UNSOUND}
use Rattle.tables.specs.Judgement.{judgement}
use Rattle.tables.specs.Grammar.{grammar}
use Rattle.machine.specs.Reads.{plain_reads, unsigned_reads}
use Rattle.soundness.specs.Verdict.{Verdict, sound, unsound}
use Rattle.soundness.specs.Check.{verdict}

-- the number and the values of each verdict; the check's OK gives nothing more
abbrev pub verdict_said : Verdict → Said
verdict_said sound = OK []
verdict_said (unsound s r) = UNSOUND s r

-- a judgement of 1 to 4 is said back; else what comes after
unfoldable pub judged_then : Said → Said → Said
judged_then said next = cond (eqb said.number 0) next said

-- SIZE, GRAMMAR, ENTRY, SIGN, else the verdict on the unsigned table and the filled one
unfoldable pub checked : Sizes → ℕ → List ℕ → List ℕ → List ℕ → List ℤ → List ℕ → List ℕ → Said
checked z states left lens rights table srule sgoto =
    judged_then (judgement z states left lens rights table srule sgoto)
    (verdict_said (verdict (grammar z left lens rights) (unsigned_reads z table) (plain_reads z table srule sgoto) states))
