-- What packsheet prints: the cells up to a count, or the number of a refusal.
use Rattle.std.specs.Prelude.{ℕ, zero, suc, ◌+◌, List, [], ◌∷◌, ◌++◌, ℤ, pos, get_or}
use Rattle.number.specs.Number.{sign_of}
use Rattle.number.specs.declared.Signed.{Signed}
use Rattle.number.specs.declared.Signed.TheVariants.{Plus, Minus}
use Rattle.sheets.specs.Decimal.{decimal}
use Rattle.sheets.specs.Sheet.{line, joined}

-- `cells`
abbrev pub cells_key : List ℕ
cells_key = 99 ∷ 101 ∷ 108 ∷ 108 ∷ 115 ∷ []

-- `refused`
abbrev pub refused_key : List ℕ
refused_key = 114 ∷ 101 ∷ 102 ∷ 117 ∷ 115 ∷ 101 ∷ 100 ∷ []

-- `,`
abbrev pub comma : List ℕ
comma = 44 ∷ []

-- `-`
abbrev pub dash : List ℕ
dash = 45 ∷ []

-- a number in digits, after a minus sign where it is negative
abbrev pub signed : Signed → List ℕ
signed (Plus n) = decimal n
signed (Minus n) = dash ++ decimal n

-- `i=Base,Check`
unfoldable pub cell_line : ℕ → Signed → Signed → List ℕ
cell_line i base check = line (decimal i) (signed base ++ (comma ++ signed check))

-- what stands at place i; 0 outside
abbrev pub at : List ℤ → ℕ → Signed
at cells i = sign_of (get_or cells i (pos 0))

-- the lines of n cells, from cell i on
unfoldable pub cell_lines : List ℤ → List ℤ → ℕ → ℕ → List (List ℕ)
cell_lines base check i zero = []
cell_lines base check i (suc n) = cell_line i (at base i) (at check i) ∷ cell_lines base check (i + 1) n

-- the count, then the cells up to it
unfoldable pub cells_text : List ℤ → List ℤ → ℕ → List ℕ
cells_text base check count = line cells_key (decimal count) ++ joined (cell_lines base check 0 count)

-- a refusal's number
unfoldable pub refusal_text : ℕ → List ℕ
refusal_text number = line refused_key (decimal number)
