-- What handing the house notation out into lent arrays says and leaves.
use Rattle.std.specs.Prelude.{Bool, cond, ◌&&◌, List, [], ℕ, eqb, ℤ, length}
use Rattle.tables.specs.Said.{Said, OK, SIZE}
use Rattle.house.specs.House.{house_left, house_lens, house_rights, house_table}

-- the answer, and the final content of the four arrays
pub record Handed : Type 0 where
  pub said : Said
  pub left : List ℕ
  pub lens : List ℕ
  pub rights : List ℕ
  pub table : List ℤ

-- these five together
abbrev pub handed : Said → List ℕ → List ℕ → List ℕ → List ℤ → Handed
handed said left lens rights table = record { said = said; left = left; lens = lens; rights = rights; table = table }

-- each array is as long as what it is to hold
unfoldable pub arrays_fit : List ℕ → List ℕ → List ℕ → List ℤ → Bool
arrays_fit left lens rights table =
    eqb (length left) (length house_left)
    && (eqb (length lens) (length house_lens) && (eqb (length rights) (length house_rights) && eqb (length table) (length house_table)))

-- the proved lists; or SIZE, and the arrays unchanged
unfoldable pub handed_out : List ℕ → List ℕ → List ℕ → List ℤ → Handed
handed_out left lens rights table =
    cond (arrays_fit left lens rights table) (handed (OK []) house_left house_lens house_rights house_table) (handed SIZE left lens rights table)
