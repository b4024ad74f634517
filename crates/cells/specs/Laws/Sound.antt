-- What a move may count on after a read of cells that fit. Assumes nothing.
use Rattle.std.specs.Prelude.{◌≡◌, refl, true, List, ℕ, ◌<◌, ◌≤◌, ℤ, Option, Some, None}
use Rattle.std.proofs.Common.{arith}
use Rattle.reads.specs.declared.Read.{Read}
use Rattle.reads.specs.declared.Read.TheVariants.{Shift, Reduce, Accept, Blank}
use Rattle.reads.specs.Read.{way_cell}
use Rattle.reads.specs.Reads.{Sound}
use Rattle.cells.specs.Read.{Kind, action, goto, Cells, cells_of, twice, read_cell}
use Rattle.cells.specs.Size.{cells_fit}
use Rattle.cells.specs.Laws.Read.{Promise, read-promise}
use Rattle.cells.specs.Laws.Parsing.{shift_fits}

module _ (rules : ℕ) (base check : List ℤ) (x a : ℕ) where
  abbrev cells : Cells
  cells = cells_of rules twice base check

  numbered : (κ : Kind) (r : ℕ) → Promise κ cells a (Some (Reduce r)) → (0 < r) × (r ≤ rules)
  unfolding cells_of
  numbered action r p = let h : 2 ≤ r = p.0 in (omega arith, p.1)
  numbered goto r p = absurd p

  pub reads_sound : (κ : Kind) → cells_fit base check ≡ true → Sound rules (read_cell κ cells x a)
  reads_sound κ f = by (read_cell κ cells x a) refl
    where
      by : (r : Option Read) → read_cell κ cells x a ≡ r → Sound rules r
      by (Some (Shift w)) e = let h : way_cell w < 65536 = shift_fits rules twice base check x a κ f e in omega arith
      by (Some (Reduce r)) e = numbered κ r (rw e at (read-promise cells a κ x))
      by (Some Accept) e = tt
      by (Some Blank) e = tt
      by None e = tt
