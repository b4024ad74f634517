-- The four arrays as one, and written entries as the code reads them.
use Rattle.std.specs.Prelude.{ℕ, ◌==◌, ◌||◌, if◌then◌else◌, List, ℤ}
use Rattle.number.specs.declared.Signed.{Signed}
use Rattle.number.specs.declared.Signed.TheVariants.{Plus, Minus}
use Rattle.packing.specs.Job.{Act, blank, shift, rule}
use Rattle.packing.specs.Bench.{Bench}

-- Base, Check, the marks and the places
abbrev pub bench : List ℤ → List ℤ → List ℕ → List ℕ → Bench
bench b c m p = record { bases = b; checks = c; marks = m; places = p }

-- a terminal's entry, blank where it is the state's signed rule q
abbrev pub written_action : Signed → ℕ → Act
written_action (Plus t) q = if t == 0 then blank else shift t
written_action (Minus r) q = if r == q then blank else rule r

-- a nonterminal's entry, blank where it is the column's signed state q
abbrev pub written_goto : Signed → ℕ → Act
written_goto (Plus t) q = if (t == 0) || (t == q) then blank else shift t
written_goto (Minus r) q = rule r
