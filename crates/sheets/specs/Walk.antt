-- A text walked by place: bytes that are looked for, lines that are known, entries that are read into an array.
use Rattle.std.specs.Prelude.{ℕ, ◌+◌, cond, Option, Some, None, Result, Ok, Err, List, [], ◌∷◌, eqb, length}
use Rattle.tables.specs.declared.Sizes.{Sizes}
use Rattle.sheets.specs.declared.Key.{Key}
use Rattle.sheets.specs.declared.Key.TheVariants as key
use Rattle.sheets.specs.declared.Value.{Value}
use Rattle.sheets.specs.declared.BadLine.{BadLine}
use Rattle.sheets.specs.Sheet.{state_key, goto_key, entry_key, header}
use Rattle.sheets.specs.Lines.{stands, entry_at}

-- the place after these bytes, where they stand
unfoldable pub past_at : List ℕ → ℕ → List ℕ → Option ℕ
past_at text at k = cond (stands text at k) (Some (at + length k)) None

-- the key of an entry's line
abbrev pub key_of : Key → List ℕ
key_of (key.State s) = entry_key state_key s
key_of (key.Goto x) = entry_key goto_key x

-- where the text goes on after lines that are as they must be, or the first line that is not
abbrev pub Lines : Type 0
Lines = Result ℕ BadLine

-- line n is not as it must be
abbrev pub bad : ℕ → Lines
bad n = Err (record { 0 = n })

-- lines that are known, from line n on
unfoldable pub exact_from : List ℕ → List (List ℕ) → ℕ → ℕ → Lines
exact_from text [] n at = Ok at
exact_from text (l ∷ ls) n at = cond (stands text at l) (exact_from text ls (n + 1) (at + length l)) (bad n)

-- the text ends here, or goes on with line n
unfoldable pub end_at : List ℕ → ℕ → ℕ → Lines
end_at text n at = cond (eqb at (length text)) (Ok at) (bad n)

-- what lines that were read leave: where the text goes on, and the values that an array holds then
pub record Filled : Type 0 where
  pub ends : Lines
  pub values : List ℕ

-- these two together
abbrev pub filled : Lines → List ℕ → Filled
filled ends values = record { ends = ends; values = values }

-- one value in front
abbrev pub after : ℕ → Filled → Filled
after v f = filled f.ends (v ∷ f.values)

-- line n has this value, which takes the place of the first of vs, and f goes on; or it is bad, and nothing more changes
abbrev pub entered : ℕ → List ℕ → Option Value → (ℕ → Filled) → Filled
entered n vs None f = filled (bad n) vs
entered n vs (Some v) f = after v.number (f v.next)

-- an entry for each element, from number i and line n on
unfoldable pub entries_from : List ℕ → List ℕ → ℕ → ℕ → ℕ → List ℕ → Filled
entries_from text key i n at [] = filled (Ok at) []
entries_from text key i n at (v ∷ vs) =
    entered n (v ∷ vs) (entry_at text at (entry_key key i)) (λ p. entries_from text key (i + 1) (n + 1) p vs)

-- what the lines of a sheet leave in the two arrays, and where the text goes on
pub record Scanned : Type 0 where
  pub ends : Lines
  pub rules : List ℕ
  pub targets : List ℕ

-- these three together
abbrev pub scanned : Lines → List ℕ → List ℕ → Scanned
scanned ends rules targets = record { ends = ends; rules = rules; targets = targets }

-- after the gotos the text must end
abbrev pub ended : List ℕ → ℕ → List ℕ → List ℕ → Lines → Scanned
ended text n rules targets (Err b) = scanned (Err b) rules targets
ended text n rules targets (Ok at) = scanned (end_at text n at) rules targets

-- after the states the gotos
abbrev pub aimed : Sizes → ℕ → List ℕ → List ℕ → List ℕ → Lines → Scanned
aimed z n text rules targets (Err b) = scanned (Err b) rules targets
aimed z n text rules targets (Ok at) =
    ended text (n + length targets) rules
    (entries_from text goto_key (z.terminals + 1) n at targets).values
    (entries_from text goto_key (z.terminals + 1) n at targets).ends

-- after the five lines of the header the states
abbrev pub ruled : Sizes → ℕ → List ℕ → List ℕ → List ℕ → Lines → Scanned
ruled z states text rules targets (Err b) = scanned (Err b) rules targets
ruled z states text rules targets (Ok at) =
    aimed z (6 + states) text
    (entries_from text state_key 0 6 at rules).values
    targets
    (entries_from text state_key 0 6 at rules).ends

-- the lines of a sheet, read into the rules of the states and the targets of the nonterminals but T
unfoldable pub scan_of : Sizes → ℕ → List ℕ → List ℕ → List ℕ → Scanned
scan_of z states text rules targets = ruled z states text rules targets (exact_from text (header z states) 1 0)
