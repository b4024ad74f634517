-- There is at most one verdict. Assumes nothing.
use Rattle.std.specs.Prelude.{◌≡◌, refl, ◌≢◌, ◌⊎◌, Bool, true, false, ℕ, ◌≤◌, ◌<◌, ltb, eqb}
use Rattle.std.proofs.Common.{sym, inl, inr, arith, ltb-true, ltb-false, eqb-true}
use Rattle.std.proofs.lemmas.Bool.{eqb-false}
use Rattle.tables.specs.Grammar.{Grammar}
use Rattle.reads.specs.Reads.{Reads}
use Rattle.soundness.specs.Verdict.{Sound, Verdict, sound, unsound, Unsound, IsVerdict}

-- less, equal or greater
three : (m n : ℕ) → (m < n) ⊎ ((m ≡ n) ⊎ (n < m))
three m n = by (ltb m n) refl (eqb m n) refl
  where
    by : (a : Bool) → ltb m n ≡ a → (b : Bool) → eqb m n ≡ b → (m < n) ⊎ ((m ≡ n) ⊎ (n < m))
    by true h b k = inl (ltb-true m n h)
    by false h true k = inr (inl (eqb-true m n k))
    by false h false k = inr (inr (let l : n ≤ m = ltb-false m n h in let d : m ≢ n = eqb-false m n k in omega arith))

module _ {g : Grammar} {u v : Reads} where
  sound-or-not : {s r : ℕ} → Sound g u v → Unsound g u v s r → ⊥
  sound-or-not {s} {r} k f = f.fails (k r s f.states f.symbols f.path f.reduces)

  -- what fails is not below the least that does
  not-below : {s r p q : ℕ} → Unsound g u v s r → Unsound g u v p q → (p < s) ⊎ ((p ≡ s) × (q < r)) → ⊥
  not-below {p = p} {q = q} f k h = k.fails (f.least q p k.reduces h k.states k.symbols k.path)

module _ (g : Grammar) (u v : Reads) where
  pub verdict-unique : (x y : Verdict) → IsVerdict g u v x → IsVerdict g u v y → x ≡ y
  verdict-unique sound sound k f = refl
  verdict-unique sound (unsound s r) k f = absurd (sound-or-not k f)
  verdict-unique (unsound s r) sound f k = absurd (sound-or-not k f)
  verdict-unique (unsound s r) (unsound p q) f k = by (three p s) (three q r)
    where
      by : (p < s) ⊎ ((p ≡ s) ⊎ (s < p)) → (q < r) ⊎ ((q ≡ r) ⊎ (r < q)) → unsound s r ≡ unsound p q
      by (inl h) l = absurd (not-below f k (inl h))
      by (inr (inr h)) l = absurd (not-below k f (inl h))
      by (inr (inl h)) (inl l) = absurd (not-below f k (inr (h, l)))
      by (inr (inl h)) (inr (inr l)) = absurd (not-below k f (inr (sym h, l)))
      by (inr (inl h)) (inr (inl l)) = cc
