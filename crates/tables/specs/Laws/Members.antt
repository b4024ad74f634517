-- What `among` and `all` say of the members of a list. Assumes nothing.
use Rattle.std.specs.Prelude.{◌≡◌, ◌⊎◌, Bool, ◌&&◌, ◌||◌, ℕ, eqb, List, [], ◌∷◌}
use Rattle.std.proofs.Math.Path.{refl, ap}
use Rattle.std.proofs.Common.{◌∙◌, inl, inr, eq-eqb, eqb-true}
use Rattle.std.proofs.Math.Bool.{true, false}
use mathlib.Core.List.{Memᴰ}
use Rattle.tables.specs.Lists.{all, among}
use Rattle.tables.specs.Laws.Tests.{clash, and-true, or-true}

-- one that is found is a member
pub among-from : (x : ℕ) (l : List ℕ) → among x l ≡ true → Memᴰ x l
unfolding among
among-from x [] e = absurd (clash e refl)
among-from x (y ∷ l) e = by (or-true (eqb x y) e) (among-from x l)
  where
    by : (eqb x y ≡ true) ⊎ (among x l ≡ true) → (among x l ≡ true → Memᴰ x l) → Memᴰ x (y ∷ l)
    by (inl q) next = Memᴰ.head (eqb-true x y q)
    by (inr q) next = Memᴰ.tail (next q)

or_right : (b : Bool) {d : Bool} → d ≡ true → (b || d) ≡ true
or_right true h = refl
or_right false h = h

-- a member is found
pub among_in : (x : ℕ) (l : List ℕ) → Memᴰ x l → among x l ≡ true
unfolding among
among_in x [] m = elim m [ ]
among_in x (y ∷ l) (Memᴰ.head e) = rw (eq-eqb x y e)
among_in x (y ∷ l) (Memᴰ.tail m) = or_right (eqb x y) (among_in x l m)

module _ (test : ℕ → Bool) where
  -- where all pass, each member does
  pub all_of : (l : List ℕ) → all test l ≡ true → (x : ℕ) → Memᴰ x l → test x ≡ true
  unfolding all
  all_of [] e x m = elim m [ ]
  all_of (y ∷ l) e x (Memᴰ.head q) = ap test q ∙ (and-true (test y) e).0
  all_of (y ∷ l) e x (Memᴰ.tail m) = all_of l (and-true (test y) e).1 x m

  -- where not all pass, some member does not
  pub not-all : (l : List ℕ) → all test l ≡ false → (x : ℕ) × Memᴰ x l × (test x ≡ false)
  unfolding all
  not-all [] e = absurd (clash refl e)
  not-all (y ∷ l) e = by (test y) refl e (not-all l)
    where
      by : (b : Bool) → test y ≡ b → (b && all test l) ≡ false → (all test l ≡ false → (x : ℕ) × Memᴰ x l × (test x ≡ false))
          → (x : ℕ) × Memᴰ x (y ∷ l) × (test x ≡ false)
      by true q h next = let w : (x : ℕ) × Memᴰ x l × (test x ≡ false) = next h in (w.0, Memᴰ.tail w.1, w.2)
      by false q h next = (y, Memᴰ.head refl, q)
