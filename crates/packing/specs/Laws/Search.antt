-- Searches upwards, and the tests that they make. Assumes nothing.
use Rattle.std.specs.Prelude.{◌≡◌, refl, Bool, true, false, ℕ, zero, suc, ◌+◌, ◌≤◌, ◌<◌, replicate}
use Rattle.std.proofs.Common.{sym, ◌∙◌, arith, eq-or-lt_of_le}
use Rattle.std.proofs.Math.Logic.{⊎_elim}
use Rattle.std.proofs.Math.Bool.{or-true}
use Rattle.cells.specs.Read.{Kind, is_number}
use Rattle.packing.specs.Bench.{Bench, base_of_b, used_b, first_b}
use Rattle.packing.specs.Gathered.{Marked}
use Rattle.packing.specs.Laws.Everywhere.{everywhere-same}

-- ---- the first that passes a test

at_end : (f : ℕ → Bool) (b : ℕ) (t : Bool) → first_b f 0 b t ≡ b
at_end f b true = refl
at_end f b false = refl

first_from : (f : ℕ → Bool) (n b i : ℕ) → b ≤ i → i ≤ b + n → ((k : ℕ) → b ≤ k → k < i → f k ≡ false) → (i < b + n → f i ≡ true) → first_b f n b (f b) ≡ i
first_from f zero b i h l p t = let e : b ≡ i = omega arith in at_end f b (f b) ∙ e
first_from f (suc n) b i h l p t =
    ⊎_elim
    (λ (e : b ≡ i). let y : f b ≡ true = rw e (t (omega arith)) in rw y e)
    (λ (m : b < i). let y : f b ≡ false = p b (omega arith) m in
    rw y (first_from f n (suc b) i m (omega arith) (λ k u v. p k (omega arith) v) (λ u. t (omega arith))))
    (eq-or-lt_of_le h)

-- from 1 on it is i, where all before i fail and i passes
pub first_is : (f : ℕ → Bool) (n i : ℕ) → 1 ≤ i → i ≤ n → ((k : ℕ) → 1 ≤ k → k < i → f k ≡ false) → f i ≡ true → i ≡ first_b f n 1 (f 1)
first_is f n i h l p t = sym (first_from f n 1 i h (omega arith) p (λ u. t))

-- and n + 1 where all fail
pub first_none : (f : ℕ → Bool) (n : ℕ) → ((k : ℕ) → 1 ≤ k → k < n + 1 → f k ≡ false) → n + 1 ≡ first_b f n 1 (f 1)
first_none f n p = sym (first_from f n 1 (n + 1) (omega arith) (omega arith) p (λ u. absurd (omega arith)))

-- ---- bases

-- the base of a state below s
pub used_at : (A : Bench) (κ : Kind) (b s n : ℕ) → n < s → is_number (base_of_b κ A n) b ≡ true → used_b A κ b s ≡ true
used_at A κ b zero n h e = absurd (omega arith)
used_at A κ b (suc s) n h e =
    ⊎_elim
    (λ (q : n ≡ s). let d : is_number (base_of_b κ A s) b ≡ true = rw q at e in rw d refl)
    (λ (l : n < s). rw (used_at A κ b s n l e) (or-true _))
    (eq-or-lt_of_le (let k : n ≤ s = omega arith in k))

-- ---- the bases marked

pub marked-none : (A : Bench) (κ : Kind) (n : ℕ) → Marked A κ 0 (replicate n false)
marked-none A κ n = record { says = λ b h l. everywhere-same (λ x. x ≡ false) n false false refl refl b }
