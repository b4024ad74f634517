-- What packing is promised for: a table and a signing that are not refused, and an edition's cells for the default targets.
use Rattle.std.specs.Prelude.{◌≡◌, ℕ, suc, ◌+◌, ◌*◌, ◌≤◌, ◌<◌, true, None, List, ℤ}
use Rattle.tables.specs.declared.Sizes.{Sizes}
use Rattle.tables.specs.Size.{table_fits, signing_fits}
use Rattle.tables.specs.Entry.{lowest_entry}
use Rattle.tables.specs.Signing.{lowest_state, lowest_target}

-- neither SIZE nor ENTRY nor SIGN is said
pub record Valid (z : Sizes) (states : ℕ) (table : List ℤ) (srule sgoto : List ℕ) : Type 0 where
  pub signing-size : signing_fits z states srule sgoto ≡ true
  pub table-size : table_fits z states table ≡ true
  pub entries : lowest_entry z states table ≡ None
  pub rules : lowest_state z srule ≡ None
  pub targets : lowest_target states sgoto ≡ None

-- A's default target is at `off A`: at most at 2A, above the cells of state 0 unless A is T, and each two cells above the one before
pub record Edition (T : ℕ) (off : ℕ → ℕ) : Type 0 where
  pub most : (A : ℕ) → off A ≤ 2 * A
  pub least : (A : ℕ) → T < A → 2 ≤ off A
  pub apart : (A : ℕ) → T ≤ A → off A + 2 ≤ off (suc A)
