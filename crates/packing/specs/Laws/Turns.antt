-- The turn of a row, put together from the search and the stores. Assumes nothing.
use Rattle.std.specs.Prelude.{◌≡◌, refl, Result, Ok, Err, IsErr, Bool, true, false, not, ◌&&◌, ℕ, List, get_or, eqb, ℤ, pos, negsuc}
use Rattle.std.proofs.Common.{sym, ap, ◌∙◌, true≢false, eq-eqb, ne_eqb}
use Rattle.std.proofs.Math.Option.{Option, none, some}
use Rattle.std.proofs.Math.Bool.{and-false}
use Rattle.number.specs.Number.{plus_of}
use Rattle.cells.specs.Read.{Kind}
use Rattle.packing.specs.declared.NoRoom.{NoRoom}
use Rattle.packing.specs.Job.{Job}
use Rattle.packing.specs.Lent.{kept}
use Rattle.packing.specs.Rows.{row, Plan, search, plan}
use Rattle.packing.specs.Bench.{Bench, inside, nat_of, no_cell_b, free_b, used_b, first_b, try_b, free2_b, base_b, fill_b, row_by_b, row_b, bind_b, house_b, home_b}
use Rattle.packing.specs.Gathered.{every_from, Gathered, test_b}

-- ---- one step after another

-- after a step that had no room there are no arrays
pub kept_err : (r : Result (Unit {0}) NoRoom) (B : Bench) → IsErr r → kept r B ≡ none
kept_err (Ok u) B h = absurd (true≢false (sym h))
kept_err (Err e) B h = refl

pub bind_none : {o : Option Bench} (f : Bench → Option Bench) → none ≡ o → none ≡ bind_b o f
bind_none f e = rw (← e) refl

pub bind_is : {o p : Option Bench} (f : Bench → Option Bench) {B : Bench} → some B ≡ o → p ≡ f B → p ≡ bind_b o f
bind_is f e h = rw (← e) h

-- ---- the cell of a state

module _ (J : Job) (W fuel s : ℕ) (A : Bench) where
  pub home_zero : s ≡ 0 → some A ≡ home_b J W fuel s A
  unfolding home_b
  home_zero e = rw (eq-eqb s 0 e) refl

  pub home_has : (get_or A.places s 0 ≡ 0 → ⊥) → some A ≡ home_b J W fuel s A
  unfolding home_b
  home_has h = rw (ne_eqb (get_or A.places s 0) 0 h, and-false (not (eqb s 0))) refl

  pub home_new : (s ≡ 0 → ⊥) → get_or A.places s 0 ≡ 0 → (x : ℕ) → x ≡ first_b (free2_b A) fuel 1 (free2_b A 1)
      → (o : Option Bench) → o ≡ house_b J W s x (pos J.syms) A → o ≡ home_b J W fuel s A
  unfolding home_b
  home_new e h x f o t = t ∙ sym (rw (ne_eqb s 0 e, eq-eqb (get_or A.places s 0) 0 h, ← f) refl)

-- ---- a row

pub row_is : (J : Job) (W fuel : ℕ) (κ : Kind) (s : ℕ) (A : Bench) (p : Plan) → p ≡ plan J κ s → (o : Option Bench) → o ≡ row_by_b p J W fuel κ s A → o ≡ row_b J W fuel κ s A
unfolding row_b
row_is J W fuel κ s A p e o h = rw (← e) h

pub nat-plus : (v : ℤ) → nat_of v ≡ plus_of v
nat-plus (pos n) = refl
nat-plus (negsuc n) = refl

module _ (J : Job) (W fuel : ℕ) (κ : Kind) (s : ℕ) (A : Bench) (need : List ℕ) (G : Gathered (no_cell_b A) (row J κ s) J.syms need) where
  try-is : (x : ℕ) → test_b A κ s need x ≡ try_b J κ s A x
  unfolding try_b
  try-is x = ap (λ v. not (used_b A κ x s) && v) (G.all (free_b A) x)

  module _ (b : ℕ) (least : b ≡ first_b (test_b A κ s need) fuel 1 (test_b A κ s need 1)) where
    first-is : b ≡ first_b (try_b J κ s A) fuel 1 (try_b J κ s A 1)
    first-is = least ∙ ap (λ (f : ℕ → Bool). first_b f fuel 1 (f 1)) (λ i. λ x. try-is x i)

    pub row_placed : every_from (inside W) b need ≡ true → (B C : Bench) → B ≡ base_b κ s b A → C ≡ fill_b J κ s b J.syms B → some C ≡ row_by_b search J W fuel κ s A
    row_placed e B C p q = rw (← first-is, ← G.all (inside W) b, e, q, p) refl

    pub row_unplaced : every_from (inside W) b need ≡ false → none ≡ row_by_b search J W fuel κ s A
    row_unplaced e = rw (← first-is, ← G.all (inside W) b, e) refl
