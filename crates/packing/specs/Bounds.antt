-- What the code's values keep: the bounds of a job that has been judged, and of the places.
use Rattle.std.specs.Prelude.{◌≡◌, ℕ, ◌≤◌, List, ℤ, get_or}
use Rattle.tables.specs.declared.Sizes.{Sizes}
use Rattle.tables.specs.Entry.{entry_at}
use Rattle.tables.specs.Laws.Size.{NumbersFit}
use Rattle.packing.specs.Job.{Act, rule, view}

-- every place is low enough for a pointer to it
abbrev pub Low : List ℕ → Type 0
Low places = (t : ℕ) → get_or places t 0 ≤ 4000000

-- the numbers fit, and so do the signed rules
pub record Tame (z : Sizes) (srule : List ℕ) : Type 0 where
  pub numbers : NumbersFit z
  pub signs : (s : ℕ) → get_or srule s 0 ≤ 1024

-- the rules of the table fit
abbrev pub TameRules : Sizes → List ℤ → Type 0
TameRules z table = (s a r : ℕ) → view (entry_at z table s a) ≡ rule r → r ≤ 1024

-- a rule of an entry fits
abbrev pub RuleLow : Act → Type 0
RuleLow e = (r : ℕ) → e ≡ rule r → r ≤ 1024
