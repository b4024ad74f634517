-- The least state and rule that fail, found state by state, are the verdict, and two answers that say the same are the same. Assumes nothing.
use Rattle.std.specs.Prelude.{◌≡◌, refl, cond, List, ℕ, zero, suc, ◌+◌, ◌≤◌, ◌<◌, eqb, get_or, Option, Some, None, Result, Ok, Err}
use Rattle.std.proofs.Common.{sym, ap, ◌∙◌, ⊎_elim, eq-or-lt_of_le, add-one, arith}
use Rattle.tables.specs.declared.Refusal.TheVariants.{Size, Grammar as bad-rule, Entry, State, Nonterminal}
use Rattle.tables.specs.Said.{Said}
use Rattle.soundness.specs.declared.CheckRefusal.{CheckRefusal}
use Rattle.soundness.specs.declared.CheckRefusal.TheVariants.{Judged, Unsound}
use Rattle.soundness.specs.Verdict.{sound, unsound}
use Rattle.soundness.specs.Check.{or_fault, least_fault}
use Rattle.soundness.specs.Answer.{said_of}

-- ---- state by state

module _ (fault : ℕ → Option ℕ) where
  pub least-none : (n : ℕ) → ((k : ℕ) → k < n → fault k ≡ None) → least_fault fault n ≡ sound
  unfolding least_fault or_fault
  least-none zero p = refl
  least-none (suc n) p = rw (least-none n (λ k h. p k (omega arith)), p n (omega arith))

  pub least-at : (n s i : ℕ) → s < n → ((k : ℕ) → k < s → fault k ≡ None) → fault s ≡ Some i → least_fault fault n ≡ unsound s (i + 1)
  unfolding least_fault or_fault
  least-at zero s i h p e = absurd (omega arith)
  least-at (suc n) s i h p e =
      ⊎_elim
      (λ (q : s ≡ n). rw (least-none n (rw q at p), rw q at e, q, add-one i))
      (λ (l : s < n). rw (least-at n s i l p e))
      (eq-or-lt_of_le (let k : s ≤ n = omega arith in k))

-- ---- one answer for one input

-- what a number and its values stand for
abbrev checked_of : ℕ → List ℕ → Result (Unit {0}) CheckRefusal
checked_of zero vs = Ok tt
checked_of (suc zero) vs = Err (Judged Size)
checked_of (suc (suc zero)) vs = Err (Judged (bad-rule (get_or vs 0 0)))
checked_of (suc (suc (suc zero))) vs = Err (Judged (Entry (get_or vs 0 0)))
checked_of (suc (suc (suc (suc zero)))) vs = Err (Judged (cond (eqb (get_or vs 0 0) 0) (State (get_or vs 1 0)) (Nonterminal (get_or vs 1 0))))
checked_of (suc (suc (suc (suc (suc n))))) vs = Err (Unsound (get_or vs 0 0) (get_or vs 1 0))

read_back : (c : Result (Unit {0}) CheckRefusal) → checked_of (said_of c).number (said_of c).values ≡ c
read_back (Ok u) = refl
read_back (Err (Judged Size)) = refl
read_back (Err (Judged (bad-rule r))) = refl
read_back (Err (Judged (Entry i))) = refl
read_back (Err (Judged (State s))) = refl
read_back (Err (Judged (Nonterminal x))) = refl
read_back (Err (Unsound s r)) = refl

-- two answers that a contract by `said_of` allows are equal
pub answer-once : (a b : Result (Unit {0}) CheckRefusal) → said_of a ≡ said_of b → a ≡ b
answer-once a b e = sym (read_back a) ∙ ap (λ (s : Said). checked_of s.number s.values) e ∙ read_back b
