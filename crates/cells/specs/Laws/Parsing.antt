-- What a parser may count on after a read of the cells that it was lent. Assumes nothing.
use Rattle.std.specs.Prelude.{◌≡◌, true, List, ℕ, suc, ◌≤◌, ◌<◌, ℤ, pos, length, get_or, Some}
use Rattle.std.proofs.Common.{arith}
use Rattle.reads.specs.declared.Way.{Way}
use Rattle.reads.specs.declared.Read.TheVariants.{Shift, Reduce}
use Rattle.cells.specs.Read.{Kind, action, cells_of, is_pos, read_cell}
use Rattle.reads.specs.Read.{way_cell}
use Rattle.cells.specs.Size.{cells_fit}
use Rattle.cells.specs.Laws.Size.{CellsFit, cells_fit_lem}
use Rattle.cells.specs.Laws.Read.{Promise, read-promise}

-- a shift on symbol a to the state at cell y
pub record Shifted (base : List ℤ) (a y : ℕ) : Type 0 where
  pub symbol : 0 < a
  pub above : 0 < y
  pub inside : suc y < length base
  pub plus : is_pos (get_or base y (pos 0)) ≡ true

-- a rule that may be reduced by
pub record Reduced (rules r : ℕ) : Type 0 where
  pub least : 2 ≤ r
  pub most : r ≤ rules

module _ (rules : ℕ) (target : ℕ → ℕ) (base check : List ℤ) (x a : ℕ) where
  -- a shift is not on 0, and its cell can be read again
  pub shifted : (κ : Kind) {w : Way} → read_cell κ (cells_of rules target base check) x a ≡ Some (Shift w) → Shifted base a (way_cell w)
  unfolding cells_of
  shifted κ {w} e =
      let p : Promise κ (cells_of rules target base check) a (Some (Shift w)) = rw e at (read-promise (cells_of rules target base check) a κ x) in
      record { symbol = p.0; above = p.1.above; inside = p.1.inside; plus = p.1.plus }

  -- where SIZE is not said, the cell of a shift fits a u32
  pub shift_fits : (κ : Kind) {w : Way} → cells_fit base check ≡ true → read_cell κ (cells_of rules target base check) x a ≡ Some (Shift w) → way_cell w < 65536
  shift_fits κ {w} f e =
      let k : CellsFit base check = cells_fit_lem base check f in
      let h : Shifted base a (way_cell w) = shifted κ e in
      omega arith

  -- the rule of an action is 2..G
  pub reduced : {r : ℕ} → read_cell action (cells_of rules target base check) x a ≡ Some (Reduce r) → Reduced rules r
  unfolding cells_of
  reduced {r} e =
      let p : Promise action (cells_of rules target base check) a (Some (Reduce r)) = rw e at (read-promise (cells_of rules target base check) a action x) in
      record { least = p.0; most = p.1 }
