-- The lowest bad number is that, and a walk upwards finds it. Assumes nothing.
use Rattle.std.proofs.Math.Path.{◌≡◌, refl}
use Rattle.std.proofs.Common.{sym, ap, eq-or-lt_of_le, below_more, arith}
use Rattle.std.proofs.Math.Logic.{⊎_elim}
use Rattle.std.specs.Prelude.{Bool, not, ℕ, zero, suc, ◌+◌, ◌≤◌, ◌<◌, Option, Some, None, List, length, get_or, cond, position, ltb}
use Rattle.std.proofs.Math.Bool.{true, false}
use Rattle.std.specs.List.{position_or_len}
use Rattle.std.proofs.lemmas.List.Sums.{fails_before_first, passes_at_first}
use Rattle.std.proofs.lemmas.Bool.{not-true, not-false, ltb-true, ltb-false}
use Rattle.tables.specs.Lists.{or_at, lowest}
use Rattle.tables.specs.Verdict.{Passed, Least}

module _ (good : ℕ → Bool) where
  pub lowest-nowhere : (n : ℕ) → Passed good n → lowest good n ≡ None
  unfolding lowest or_at
  lowest-nowhere zero p = refl
  lowest-nowhere (suc n) p = rw (lowest-nowhere n (λ k h. p k (omega arith)), p n (omega arith))

  pub lowest-at : (n i : ℕ) → i < n → Passed good i → good i ≡ false → lowest good n ≡ Some i
  unfolding lowest or_at
  lowest-at zero i h p b = absurd (omega arith)
  lowest-at (suc n) i h p b =
      ⊎_elim
      (λ (e : i ≡ n). rw (lowest-nowhere n (rw e at p), rw e at b) (ap Some (sym e)))
      (λ (l : i < n). rw (lowest-at n i l p b))
      (eq-or-lt_of_le (let k : i ≤ n = omega arith in k))

  -- ---- and back

  nowhere-by : (l : Option ℕ) (b : Bool) (n : ℕ) → or_at l (not b) n ≡ None → (l ≡ None) × (b ≡ true)
  unfolding or_at
  nowhere-by (Some k) b n e = let z : ◌≡◌ {A = ℕ} 0 1 = cc in absurd (omega arith)
  nowhere-by None true n e = (refl, refl)
  nowhere-by None false n e = let z : ◌≡◌ {A = ℕ} 0 1 = cc in absurd (omega arith)

  pub nowhere-passed : (n : ℕ) → lowest good n ≡ None → Passed good n
  unfolding lowest
  nowhere-passed zero e k h = absurd (omega arith)
  nowhere-passed (suc n) e k h =
      let p : (lowest good n ≡ None) × (good n ≡ true) = nowhere-by (lowest good n) (good n) n e in
      ⊎_elim
      (λ (s : k ≡ n). rw s p.1)
      (λ (l : k < n). nowhere-passed n p.0 k l)
      (eq-or-lt_of_le (let l : k ≤ n = omega arith in l))

  at-by : (l : Option ℕ) (b : Bool) (n i : ℕ) → lowest good n ≡ l → good n ≡ b → (l ≡ Some i → Least good n i) → or_at l (not b) n ≡ Some i → Least good (suc n) i
  unfolding or_at
  at-by (Some k) b n i p q before e =
      let r : Least good n i = before e in (omega (arith, r.0), r.1, r.2)
  at-by None true n i p q before e = let z : ◌≡◌ {A = ℕ} 0 1 = cc in absurd (omega arith)
  at-by None false n i p q before e =
      let s : n ≡ i = cc in (omega arith, rw (← s) (nowhere-passed n p), rw (← s) q)

  pub at_least : (n i : ℕ) → lowest good n ≡ Some i → Least good n i
  unfolding lowest
  at_least zero i e = let z : ◌≡◌ {A = ℕ} 0 1 = cc in absurd (omega arith)
  at_least (suc n) i e = at-by (lowest good n) (good n) n i refl refl (at_least n i) e

-- ---- a walk upwards below n, with every number before i good

pub record Walk (good : ℕ → Bool) (n i : ℕ) : Type 0 where
  pub upto : i ≤ n
  pub passed : Passed good i

module _ {good : ℕ → Bool} {n : ℕ} where
  pub walk-begin : Walk good n 0
  walk-begin = record { upto = omega arith; passed = λ k h. absurd (omega arith) }

  module _ {i : ℕ} (w : Walk good n i) where
    pub walk-on : i < n → good i ≡ true → Walk good n (i + 1)
    walk-on h g = record { upto = omega arith; passed = below_more _ _ w.passed g }

    pub walk-bad : i < n → good i ≡ false → Some i ≡ lowest good n
    walk-bad h g = sym (lowest-at good n i h w.passed g)

    pub walk_end : n ≤ i → None ≡ lowest good n
    walk_end h = sym (lowest-nowhere good n (λ k l. w.passed k (omega arith)))

-- the first element of a list that is not good stands at the lowest place whose element is not
pub position_lowest : (good : ℕ → Bool) (xs : List ℕ) → position (λ x. not (good x)) xs ≡ lowest (λ i. good (get_or xs i 0)) (length xs)
position_lowest good xs = by (ltb first (length xs)) refl
  where
    bad : ℕ → Bool
    bad x = not (good x)

    first : ℕ
    first = position_or_len bad xs

    passed : (k : ℕ) → k < first → good (get_or xs k 0) ≡ true
    passed k h = not-false _ (fails_before_first bad xs k 0 h)

    by : (b : Bool) → ltb first (length xs) ≡ b → cond b (Some first) None ≡ lowest (λ i. good (get_or xs i 0)) (length xs)
    by true q =
        let h : first < length xs = ltb-true _ _ q in
        sym (lowest-at (λ i. good (get_or xs i 0)) (length xs) first h passed (not-true _ (passes_at_first bad xs 0 h)))
    by false q =
        let h : length xs ≤ first = ltb-false _ _ q in
        sym (lowest-nowhere (λ i. good (get_or xs i 0)) (length xs) (λ k l. passed k (omega arith)))
