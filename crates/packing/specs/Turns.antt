-- The arrays before placement, and what is known of a job once it has been judged.
use Rattle.std.specs.Prelude.{◌≡◌, true, None, List, ℕ, length, replicate, ℤ, pos}
use Rattle.tables.specs.declared.Sizes.{Sizes}
use Rattle.tables.specs.Size.{signing_fits}
use Rattle.tables.specs.Entry.{lowest_entry}
use Rattle.tables.specs.Signing.{lowest_state}
use Rattle.packing.specs.Bench.{Bench}
use Rattle.packing.specs.Written.{bench}

-- every cell free, with the mark `empty` in Check
unfoldable pub wiped : ℕ → Bench → Bench
wiped empty A =
    bench (replicate (length A.bases) (pos 0)) (replicate (length A.checks) (pos empty)) (replicate (length A.marks) 0) (replicate (length A.places) 0)

-- the four arrays have W, W, W and L elements
pub record Sized (states : ℕ) (A : Bench) : Type 0 where
  pub checks : length A.checks ≡ length A.bases
  pub marks : length A.marks ≡ length A.bases
  pub places : length A.places ≡ states

-- table and signing have been judged: sizes, entries and signed rules are good
pub record Ready (z : Sizes) (states : ℕ) (table : List ℤ) (srule sgoto : List ℕ) : Type 0 where
  pub sizes : signing_fits z states srule sgoto ≡ true
  pub entries : lowest_entry z states table ≡ None
  pub rules : lowest_state z srule ≡ None
