-- What `find` over the numbers below n finds is the lowest that is not good. Assumes nothing.
use Rattle.std.specs.Prelude.{◌≡◌, Bool, true, false, not, List, ℕ, ◌≤◌, ◌<◌, Option, Some, None}
use Rattle.std.specs.Bool.{⊤}
use Rattle.std.specs.Fn.{CalledAt}
use Rattle.std.specs.Iterator.{YieldsThen}
use Rattle.std.specs.List.{FoldsTo}
use Rattle.std.specs.Option.{MatchOption}
use Rattle.std.proofs.Common.{sym, arith, Bor}
use Rattle.std.specs.declared.ops.Range.{Range}
use Rattle.std.proofs.iter.Yields.{nat_range_steps}
use Rattle.std.proofs.lemmas.Bool.{not-true, not-false}
use Rattle.std.proofs.lemmas.Iterator.{first_from_Range}
use denote.Param.Members.{Mut}
use Rattle.tables.specs.Lists.{lowest}
use Rattle.tables.specs.Laws.Lowest.{lowest-nowhere, lowest-at}

module _ (good : ℕ → Bool) (n : ℕ) where
  first-lowest : (r : Option ℕ)
      → MatchOption r ((k : ℕ) → 0 ≤ k → k < n → good k ≡ true) (λ i. (0 ≤ i) × (i < n) × (good i ≡ false) × ((k : ℕ) → 0 ≤ k → k < i → good k ≡ true))
      → r ≡ lowest good n
  first-lowest None h = sym (lowest-nowhere good n (λ k l. h k (omega arith) l))
  first-lowest (Some i) h = sym (lowest-at good n i h.1 (λ k l. h.3 k (omega arith) l) h.2)

  -- the closure says of each number that it is not good
  pub found-lowest : {F : Type 0} {g : Mut F (Bor ℕ × Unit {0}) Bool} (u : Range ℕ) (f : F) (r : Option ℕ)
      → (xs : List ℕ) × (j : F) × YieldsThen nat_range_steps (record { start = 0; end = n }) xs r u × FoldsTo (λ p x q. CalledAt g p x false q) f xs j × MatchOption r ⊤ (λ x. (h : F) × CalledAt g j x true h)
      → ((x : ℕ) (b : Bool) (q : F) → CalledAt g f x b q → (q ≡ f) × (b ≡ not (good x)))
      → r ≡ lowest good n
  found-lowest u f r ran k =
      first-lowest r
      (first_from_Range _ u f r (λ i. good i ≡ false) (λ i. good i ≡ true) ran
      (λ x q c. not-true _ (sym (k x true q c).1)) (λ x q c. ((k x false q c).0, not-false _ (sym (k x false q c).1))))
