-- A read asked for by itself: what holds where it is not SIZE, and that no two of its cases say the same. Assumes nothing.
use Rattle.std.specs.Prelude.{◌≡◌, refl, true, cond, List, ℕ, ◌<◌, ltb, eqb, ℤ, get_or, Result, Ok, Err}
use Rattle.std.proofs.Common.{ap, sym, ◌∙◌, ltb-true}
use Rattle.tables.specs.declared.Sizes.{Sizes}
use Rattle.tables.specs.Said.{Said}
use Rattle.tables.specs.Size.{numbers_fit}
use Rattle.tables.specs.Laws.Tests.{and-true}
use Rattle.reads.specs.declared.Way.TheVariants.{Direct, Pointer}
use Rattle.reads.specs.declared.Read.{Read}
use Rattle.reads.specs.declared.Read.TheVariants.{Shift, Reduce, Accept, Blank}
use Rattle.cells.specs.declared.ReadRefusal.{ReadRefusal}
use Rattle.cells.specs.declared.ReadRefusal.TheVariants.{Size, BadCell}
use Rattle.cells.specs.Size.{cells_fit}
use Rattle.cells.specs.Asked.{said_of, read_fits}

pub record ReadFits (z : Sizes) (base check : List ℤ) (a : ℕ) : Type 0 where
  pub numbers : numbers_fit z ≡ true
  pub cells : cells_fit base check ≡ true
  pub symbol : a < z.symbols

module _ (z : Sizes) (base check : List ℤ) (a : ℕ) where
  pub read_fits_lem : read_fits z base check a ≡ true → ReadFits z base check a
  unfolding read_fits
  read_fits_lem e =
      let p : (numbers_fit z ≡ true) × _ = and-true (numbers_fit z) e in
      let q : (cells_fit base check ≡ true) × (ltb a z.symbols ≡ true) = and-true (cells_fit base check) p.1 in
      record { numbers = p.0; cells = q.0; symbol = ltb-true _ _ q.1 }

-- the case of an OK, by its first value
ok_case : ℕ → ℕ → Read
ok_case k n =
    cond (eqb k 0) (Shift (Direct n)) (cond (eqb k 1) (Shift (Pointer n)) (cond (eqb k 2) (Reduce n) (cond (eqb k 3) Accept Blank)))

-- the case that says this
case_of : Said → Result Read ReadRefusal
case_of s =
    cond (eqb s.number 0) (Ok (ok_case (get_or s.values 0 0) (get_or s.values 1 0)))
    (cond (eqb s.number 1) (Err Size) (Err (BadCell (get_or s.values 0 0))))

case-said : (q : Result Read ReadRefusal) → case_of (said_of q) ≡ q
unfolding case_of ok_case
case-said (Ok (Shift (Direct y))) = refl
case-said (Ok (Shift (Pointer y))) = refl
case-said (Ok (Reduce r)) = refl
case-said (Ok Accept) = refl
case-said (Ok Blank) = refl
case-said (Err Size) = refl
case-said (Err (BadCell x)) = refl

-- two outcomes that say the same are equal
pub said-once : (p q : Result Read ReadRefusal) → said_of p ≡ said_of q → p ≡ q
said-once p q e = sym (case-said p) ∙ ap case_of e ∙ case-said q
