-- LINE: what each line of a text must be, and the first that is not.
use Rattle.std.specs.Prelude.{ℕ, zero, suc, ◌+◌, ◌-◌, ◌*◌, Bool, true, false, cond, ◌&&◌, Option, Some, None, List, [], ◌∷◌, ◌++◌, leb, eqb, length, drop}
use Rattle.tables.specs.declared.Sizes.{Sizes}
use Rattle.tables.specs.Size.{is_within}
use Rattle.sheets.specs.declared.Value.{Value}
use Rattle.sheets.specs.Sheet.{equals, line_end, none_word, state_key, goto_key, entry_key, header}

-- the text begins with these bytes
unfoldable pub begins : List ℕ → List ℕ → Bool
begins [] t = true
begins (b ∷ k) [] = false
begins (b ∷ k) (c ∷ t) = eqb b c && begins k t

-- these bytes stand at a place of the text
unfoldable pub stands : List ℕ → ℕ → List ℕ → Bool
stands text at k = begins k (drop at text)

-- this number, with the place after it
abbrev pub value_to : ℕ → ℕ → Option Value
value_to n at = Some (record { number = n; next = at })

-- the digits that stand at `at`, after digits that write n: the number that all of them write, if it is not above `most`
unfoldable pub digits_on : ℕ → ℕ → ℕ → List ℕ → Option Value
digits_on most n at [] = value_to n at
digits_on most n at (c ∷ t) =
    cond (is_within 48 57 c)
    (cond (leb (n * 10 + (c - 48)) most) (digits_on most (n * 10 + (c - 48)) (at + 1) t) None)
    (value_to n at)

-- a number 1..most without leading zeros
unfoldable pub number_on : ℕ → ℕ → List ℕ → Option Value
number_on most at [] = None
number_on most at (c ∷ t) = cond (is_within 49 57 c) (digits_on most 0 at (c ∷ t)) None

-- the value at a place: `none`, or 1..65,535 without leading zeros
unfoldable pub value_at : List ℕ → ℕ → Option Value
value_at text at = cond (stands text at none_word) (value_to 0 (at + length none_word)) (number_on 65535 at (drop at text))

-- a value must be followed by LF
abbrev pub ended_by : List ℕ → Option Value → Option Value
ended_by text None = None
ended_by text (Some v) = cond (stands text v.next line_end) (value_to v.number (v.next + length line_end)) None

-- the line of this key at a place: its value, and the place of the next line
unfoldable pub entry_at : List ℕ → ℕ → List ℕ → Option Value
entry_at text at key =
    cond (stands text at (key ++ equals)) (ended_by text (value_at text (at + length (key ++ equals)))) None

-- what a line must be: these bytes, or this key with some value
pub data Want : Type 0 where
  exactly : List ℕ → Want
  keyed : List ℕ → Want

-- the keys of n entries, from number i on
unfoldable pub entry_wants : List ℕ → ℕ → ℕ → List Want
entry_wants key i zero = []
entry_wants key i (suc n) = keyed (entry_key key i) ∷ entry_wants key (i + 1) n

-- each of these lines as it stands
unfoldable pub exact_wants : List (List ℕ) → List Want
exact_wants [] = []
exact_wants (l ∷ ls) = exactly l ∷ exact_wants ls

-- what the lines of a sheet must be
unfoldable pub wants : Sizes → ℕ → List Want
wants z states =
    exact_wants (header z states)
    ++ (entry_wants state_key 0 states ++ entry_wants goto_key (z.terminals + 1) (z.symbols - z.terminals - 1))

-- what the lines of a text say: the values in their order, or the first line that is not as it must be
pub data Told : Type 0 where
  values : List ℕ → Told
  bad_line : ℕ → Told

-- one value more in front
abbrev pub and_then : ℕ → Told → Told
and_then v (values vs) = values (v ∷ vs)
and_then v (bad_line n) = bad_line n

-- line n has this value, and what comes after it is told by f from its place
abbrev pub told : ℕ → Option Value → (ℕ → Told) → Told
told n None f = bad_line n
told n (Some v) f = and_then v.number (f v.next)

-- the lines from line n on, which begins at `at`; bytes after the last line count as one line more
unfoldable pub lines_from : List ℕ → List Want → ℕ → ℕ → Told
lines_from text [] n at = cond (eqb at (length text)) (values []) (bad_line n)
lines_from text (exactly l ∷ ws) n at =
    cond (stands text at l) (lines_from text ws (n + 1) (at + length l)) (bad_line n)
lines_from text (keyed k ∷ ws) n at = told n (entry_at text at k) (lines_from text ws (n + 1))

-- the lines of a whole text
unfoldable pub lines_of : Sizes → ℕ → List ℕ → Told
lines_of z states text = lines_from text (wants z states) 1 0
