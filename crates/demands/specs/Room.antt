-- How many cells a table and a signing take that are not refused.
use Rattle.std.specs.Prelude.{◌≡◌, true, List, [], ◌∷◌, ℕ, ◌+◌, ◌*◌, ◌≤◌, ◌<◌, ℤ, length}
use Rattle.tables.specs.declared.Sizes.{Sizes}
use Rattle.tables.specs.Said.{OK, NOROOM}
use Rattle.packing.specs.Bench.{Bench}
use Rattle.packing.specs.Packing.{packing_result, arrays_fit, packed}
use Rattle.packing.specs.Turns.{wiped}

-- `pack` says OK with this count wherever it is lent as many cells, and NOROOM where it is lent fewer
pub record Takes (z : Sizes) (states : ℕ) (left lens rights : List ℕ) (table : List ℤ) (srule sgoto : List ℕ) : Type 0 where
  pub cells : ℕ
  pub bounded : cells ≤ 2 * z.symbols + states * (4 * z.symbols + 4)
  pub enough : (B : Bench) → arrays_fit states B ≡ true → cells ≤ length B.bases
      → (C : Bench) × (packed z states left lens rights table srule sgoto B ≡ packing_result (OK (cells ∷ [])) C)
  pub too_few : (B : Bench) → arrays_fit states B ≡ true → length B.bases < cells → packed z states left lens rights table srule sgoto B ≡ packing_result NOROOM (wiped 0 B)
