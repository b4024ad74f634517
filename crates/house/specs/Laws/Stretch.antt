-- In a book each variant has its CAPTURE within its own stretch. Assumes nothing.
use Rattle.std.specs.Prelude.{◌≡◌, refl, ◌⊎◌, Bool, true, false, ◌||◌, ℕ, eqb, List, [], ◌∷◌, ◌++◌}
use Rattle.std.proofs.Common.{sym, ap, ◌∙◌, subst, inl, inr, append-nil}
use mathlib.Core.List.Memᴰ
use mathlib.Core.List.{head-eq_of_cons-eq, tail-eq_of_cons-eq}
use Rattle.tables.specs.Lists.{among}
use Rattle.tables.specs.Laws.Tests.{clash}
use Rattle.tables.specs.Laws.Members.{among_in}
use Rattle.house.specs.Symbols.{VARIANT, CAPTURE}
use Rattle.house.specs.Notation.{to-left, to-right, single, relay, Take, opposite, exact, nothing, Takes, one-take, and_then}
use Rattle.house.specs.Notation.{Variant, five-fields, Book, one-variant, and-variant, Ends, at-end, at_next}

-- ---- lists

-- neither list has it
among-neither : (x : ℕ) (u w : List ℕ) → among x u ≡ false → among x w ≡ false → among x (u ++ w) ≡ false
unfolding among
among-neither x [] w p q = q
among-neither x (y ∷ u) w p q = by (eqb x y) p (λ k. among-neither x u w k q)
  where
    by : (b : Bool) → (b || among x u) ≡ false → (among x u ≡ false → among x (u ++ w) ≡ false) → (b || among x (u ++ w)) ≡ false
    by true h next = absurd (clash refl h)
    by false h next = next h

-- the second list begins with it
among-joined : (x : ℕ) (u w : List ℕ) → among x (u ++ (x ∷ w)) ≡ true
among-joined x u w = among_in x (u ++ (x ∷ w)) (Memᴰ.append_right u (Memᴰ.head refl))

-- one list cut in two ways: the second cut is not before the first, or not after it
cut : (a b c d : List ℕ) → a ++ b ≡ c ++ d
    → ((m : List ℕ) × (c ≡ a ++ m) × (b ≡ m ++ d)) ⊎ ((m : List ℕ) × (a ≡ c ++ m) × (d ≡ m ++ b))
cut [] b c d e = inl (c, refl, e)
cut (x ∷ a) b [] d e = inr (x ∷ a, refl, sym e)
cut (x ∷ a) b (y ∷ c) d e = by (cut a b c d (cc))
  where
    by : ((m : List ℕ) × (c ≡ a ++ m) × (b ≡ m ++ d)) ⊎ ((m : List ℕ) × (a ≡ c ++ m) × (d ≡ m ++ b))
        → ((m : List ℕ) × (y ∷ c ≡ x ∷ (a ++ m)) × (b ≡ m ++ d)) ⊎ ((m : List ℕ) × (x ∷ a ≡ y ∷ (c ++ m)) × (d ≡ m ++ b))
    by (inl k) = let q : c ≡ a ++ k.0 = k.1 in inl (k.0, cc, k.2)
    by (inr k) = let q : a ≡ c ++ k.0 = k.1 in inr (k.0, cc, k.2)

-- ---- one variant

-- takes have no VARIANT
take-plain : {w : List ℕ} → Take w → among VARIANT w ≡ false
unfolding among
take-plain opposite = refl
take-plain exact = refl
take-plain nothing = refl

takes-plain : {w : List ℕ} → Takes w → among VARIANT w ≡ false
unfolding among
takes-plain (one-take t) = take-plain t
takes-plain (and_then {u = u} {w = w} ts t) = among-neither VARIANT u (_ ∷ w) (takes-plain ts) (take-plain t)

-- a variant begins with VARIANT, has no second one, and has CAPTURE
record Whole (v : List ℕ) : Type 0 where
  rest : List ℕ
  begins : v ≡ VARIANT ∷ rest
  no_other : among VARIANT rest ≡ false
  has-capture : among CAPTURE rest ≡ true

whole : {v : List ℕ} → Variant v → Whole v
unfolding among
whole (five-fields to-left single t) = record { rest = _; begins = refl; no_other = takes-plain t; has-capture = refl }
whole (five-fields to-left relay t) = record { rest = _; begins = refl; no_other = takes-plain t; has-capture = refl }
whole (five-fields to-right single t) = record { rest = _; begins = refl; no_other = takes-plain t; has-capture = refl }
whole (five-fields to-right relay t) = record { rest = _; begins = refl; no_other = takes-plain t; has-capture = refl }

-- ---- all variants

-- from each VARIANT on to the next, or to the end, there is a CAPTURE
abbrev Captured : List ℕ → Type 0
Captured tokens = (before inside after : List ℕ) → tokens ≡ before ++ ((VARIANT ∷ inside) ++ after) → among VARIANT inside ≡ false → Ends after
    → among CAPTURE inside ≡ true

-- VARIANT is not within the rest of a variant
not_within : {v : List ℕ} (k : Whole v) (u w : List ℕ) → k.rest ≡ u ++ (VARIANT ∷ w) → ⊥
not_within k u w e = clash (among-joined VARIANT u w) (rw e at k.no_other)

-- a variant taken apart in another way
rest-is : {v : List ℕ} (k : Whole v) {y : ℕ} {w : List ℕ} → v ≡ y ∷ w → k.rest ≡ w
rest-is k {y} {w} e = tail-eq_of_cons-eq (sym k.begins ∙ e)

head-is : {v : List ℕ} (k : Whole v) {y : ℕ} {w : List ℕ} → v ≡ y ∷ w → y ≡ VARIANT
head-is k e = head-eq_of_cons-eq (sym e ∙ k.begins)

-- in a variant by itself
variant-captured : {v : List ℕ} → Whole v → Captured v
variant-captured k [] inside after e p at-end = rw (rest-is k e ∙ append-nil inside) at k.has-capture
variant-captured k [] inside after e p (at_next {w = w}) = absurd (not_within k inside w (rest-is k e))
variant-captured k (b ∷ bs) inside after e p q = absurd (not_within k bs (inside ++ after) (rest-is k e))

-- what stands before the next variant ends there, or earlier
ends-earlier : (m v : List ℕ) → Ends (m ++ v) → Ends m
ends-earlier [] v q = at-end
ends-earlier (_ ∷ m) v at_next = at_next

-- the stretch begins in the book before the last variant
within-book : (b v before inside after m : List ℕ) → Whole v → Captured b → b ≡ before ++ (VARIANT ∷ m) → inside ++ after ≡ m ++ v → among VARIANT inside ≡ false → Ends after
    → among CAPTURE inside ≡ true
within-book b v before inside after m k c e q p z = by (cut inside after m v q)
  where
    by : ((n : List ℕ) × (m ≡ inside ++ n) × (after ≡ n ++ v)) ⊎ ((n : List ℕ) × (inside ≡ m ++ n) × (v ≡ n ++ after)) → among CAPTURE inside ≡ true
    by (inl (n, f, h)) = c before inside n (e ∙ ap (λ (l : List ℕ). before ++ (VARIANT ∷ l)) f) p (ends-earlier n v (subst Ends h z))
    by (inr ([], f, h)) =
        let same : m ≡ inside ++ [] = sym (append-nil m) ∙ sym f ∙ sym (append-nil inside) in
        c before inside [] (e ∙ ap (λ (l : List ℕ). before ++ (VARIANT ∷ l)) same) p at-end
    by (inr (y ∷ n, f, h)) =
        let other : inside ≡ m ++ (VARIANT ∷ n) = f ∙ ap (λ (x : ℕ). m ++ (x ∷ n)) (head-is k h) in
        absurd (clash (among-joined VARIANT m n) (rw other at p))

-- in a book and one more variant
book-captured : {b v : List ℕ} → Captured b → Whole v → Captured (b ++ v)
book-captured {b} {v} c k before inside after e p q = by (cut b v before ((VARIANT ∷ inside) ++ after) e)
  where
    by : ((m : List ℕ) × (before ≡ b ++ m) × (v ≡ m ++ ((VARIANT ∷ inside) ++ after))) ⊎ ((m : List ℕ) × (b ≡ before ++ m) × ((VARIANT ∷ inside) ++ after ≡ m ++ v)) → among CAPTURE inside ≡ true
    by (inl (m, f, h)) = variant-captured k m inside after h p q
    by (inr ([], f, h)) = variant-captured k [] inside after (sym h) p q
    by (inr (y ∷ m, f, h)) =
        within-book b v before inside after m k c (f ∙ ap (λ (x : ℕ). before ++ (x ∷ m)) (sym (head-eq_of_cons-eq h))) (tail-eq_of_cons-eq h) p q

-- in every book
pub captured : {w : List ℕ} → Book w → Captured w
captured (one-variant v) = variant-captured (whole v)
captured (and-variant b v) = book-captured (captured b) (whole v)
