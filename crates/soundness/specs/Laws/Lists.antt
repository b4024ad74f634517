-- Laws of those that pass a test, and of lists joined. Assumes nothing.
use Rattle.std.specs.Prelude.{◌≡◌, ◌≢◌, ◌⊎◌, Bool, refl, true, false, List, [], ◌∷◌, ◌++◌, ℕ, zero, suc, ◌≤◌, ◌<◌, eqb, length}
use Rattle.std.proofs.Common.{sym, ◌∙◌, subst, ap, inl, inr, arith, eqb-true}
use mathlib.Core.List.Memᴰ
use mathlib.Core.List.{Memᴰ}
use Rattle.std.proofs.lemmas.Bool.{eqb-false}
use Rattle.soundness.specs.Lists.{kept, those, collect}

module _ {A : Type 0} where
  -- ---- those that pass a test

  kept_from : (b : Bool) (x y : A) (xs : List A) → Memᴰ y (kept b x xs) → ((y ≡ x) × (b ≡ true)) ⊎ Memᴰ y xs
  unfolding kept
  kept_from true x y xs (Memᴰ.head e) = inl (e, refl)
  kept_from true x y xs (Memᴰ.tail m) = inr m
  kept_from false x y xs m = inr m

  kept_more : (b : Bool) (x y : A) (xs : List A) → Memᴰ y xs → Memᴰ y (kept b x xs)
  unfolding kept
  kept_more true x y xs m = Memᴰ.tail m
  kept_more false x y xs m = m

  -- one of those is in the list, and passes
  pub those-from : (test : A → Bool) (xs : List A) (y : A) → Memᴰ y (those test xs) → Memᴰ y xs × (test y ≡ true)
  unfolding those
  those-from test [] y m = elim m [ ]
  those-from test (x ∷ xs) y m = by (kept_from (test x) x y (those test xs) m) (those-from test xs y)
    where
      by : ((y ≡ x) × (test x ≡ true)) ⊎ Memᴰ y (those test xs) → (Memᴰ y (those test xs) → Memᴰ y xs × (test y ≡ true))
          → Memᴰ y (x ∷ xs) × (test y ≡ true)
      by (inl q) next = (Memᴰ.head q.0, ap test q.0 ∙ q.1)
      by (inr k) next = (Memᴰ.tail (next k).0, (next k).1)

  -- and whatever is in the list and passes is one of those
  pub those-in : (test : A → Bool) (xs : List A) (y : A) → Memᴰ y xs → test y ≡ true → Memᴰ y (those test xs)
  unfolding those kept
  those-in test [] y m h = elim m [ ]
  those-in test (x ∷ xs) y (Memᴰ.head e) h =
      let q : test x ≡ true = ap test (sym e) ∙ h in
      rw q (Memᴰ.head e)
  those-in test (x ∷ xs) y (Memᴰ.tail m) h = kept_more (test x) x y (those test xs) (those-in test xs y m h)

  those-most : (test : A → Bool) (xs : List A) → length (those test xs) ≤ length xs
  unfolding those kept
  those-most test [] = omega arith
  those-most test (x ∷ xs) = by (test x) (those-most test xs)
    where
      by : (b : Bool) → length (those test xs) ≤ length xs → length (kept b x (those test xs)) ≤ suc (length xs)
      by true h = omega arith
      by false h = omega arith

  -- where one does not pass, those are fewer
  pub those-fewer : (test : A → Bool) (xs : List A) (y : A) → Memᴰ y xs → test y ≡ false → length (those test xs) < length xs
  unfolding those kept
  those-fewer test [] y m h = elim m [ ]
  those-fewer test (x ∷ xs) y (Memᴰ.head e) h =
      let q : test x ≡ false = ap test (sym e) ∙ h in
      rw q (omega (arith, those-most test xs))
  those-fewer test (x ∷ xs) y (Memᴰ.tail m) h = by (test x) (those-fewer test xs y m h)
    where
      by : (b : Bool) → length (those test xs) < length xs → length (kept b x (those test xs)) < suc (length xs)
      by true k = omega arith
      by false k = omega arith

  -- ---- lists joined

  pub collect-in : (f : ℕ → List A) (n i : ℕ) {y : A} → i < n → Memᴰ y (f i) → Memᴰ y (collect f n)
  unfolding collect
  collect-in f zero i h m = absurd (omega arith)
  collect-in f (suc n) i {y} h m = by (eqb i n) refl (λ k. collect-in f n i k m)
    where
      by : (b : Bool) → eqb i n ≡ b → (i < n → Memᴰ y (collect f n)) → Memᴰ y (f n ++ collect f n)
      by true q next = Memᴰ.append_left (collect f n) (subst (λ (k : ℕ). Memᴰ y (f k)) (eqb-true i n q) m)
      by false q next = Memᴰ.append_right (f n) (next (let d : i ≢ n = eqb-false i n q in omega arith))

  pub collect-from : (f : ℕ → List A) (n : ℕ) {y : A} → Memᴰ y (collect f n) → (i : ℕ) × (i < n) × Memᴰ y (f i)
  unfolding collect
  collect-from f zero m = elim m [ ]
  collect-from f (suc n) {y} m = by (Memᴰ.append_cases (f n) m) (collect-from f n)
    where
      by : Memᴰ y (f n) ⊎ Memᴰ y (collect f n) → (Memᴰ y (collect f n) → (i : ℕ) × (i < n) × Memᴰ y (f i))
          → (i : ℕ) × (i < suc n) × Memᴰ y (f i)
      by (inl k) next = (n, omega arith, k)
      by (inr k) next = let w : (i : ℕ) × (i < n) × Memᴰ y (f i) = next k in (w.0, omega (arith, w.1), w.2)
