-- What the cells are where SIZE is not said. Assumes nothing.
use Rattle.std.specs.Prelude.{◌≡◌, true, List, ◌≤◌, leb, eqb, ℤ, length}
use Rattle.std.proofs.Common.{leb-true, eqb-true, le-leb, eq-eqb}
use Rattle.tables.specs.Laws.Tests.{and-true}
use Rattle.cells.specs.Size.{cells_fit}

-- W is the length of Base, within its bounds, and Check is as long
pub record CellsFit (base check : List ℤ) : Type 0 where
  pub least : 2 ≤ length base
  pub most : length base ≤ 65536
  pub same : length check ≡ length base

module _ (base check : List ℤ) where
  pub cells_fit_lem : cells_fit base check ≡ true → CellsFit base check
  unfolding cells_fit
  cells_fit_lem e =
      let p : (leb 2 (length base) ≡ true) × _ = and-true (leb 2 (length base)) e in
      let q : (leb (length base) 65536 ≡ true) × (eqb (length check) (length base) ≡ true) = and-true (leb (length base) 65536) p.1 in
      record { least = leb-true _ _ p.0; most = leb-true _ _ q.0; same = eqb-true _ _ q.1 }

  pub fit-cells : CellsFit base check → cells_fit base check ≡ true
  unfolding cells_fit
  fit-cells k = rw (le-leb _ _ k.least, le-leb _ _ k.most) (eq-eqb _ _ k.same)
