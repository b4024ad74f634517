-- What the check works out is the verdict. Assumes nothing.
use Rattle.std.proofs.Common.{sym, subst, ⊎_elim, arith, eqb-true}
use Rattle.std.specs.Prelude.{◌≢◌, Bool, List, [], ◌∷◌, reverse, Option, Some, None, ◌≡◌, refl, true, false, ℕ, zero, suc, ◌≤◌, ◌<◌, eqb}
use Rattle.std.proofs.lemmas.Bool.{eqb-false}
use Rattle.tables.specs.Lists.{among}
use Rattle.tables.specs.Grammar.{Grammar}
use Rattle.tables.specs.Laws.Tests.{clash}
use Rattle.tables.specs.Verdict.{Least}
use Rattle.tables.specs.Laws.Lowest.{at_least, nowhere-passed}
use Rattle.tables.specs.Laws.Members.{among-from, among_in}
use Rattle.reads.specs.Reads.{Reads}
use Rattle.soundness.specs.Path.{PathTo, Reach}
use Rattle.soundness.specs.Verdict.{Reduces, Handle, Verdict, sound, unsound, IsVerdict}
use Rattle.soundness.specs.Check.{Arc, arcs, reached, spells, may_precede, keeps, rules_at, rule_fault, state_fault, or_fault, least_fault, verdict_of, verdict_by, verdict_from, verdict}
use Rattle.soundness.specs.Laws.Tail.{Failing}
use Rattle.soundness.specs.Laws.Reached.{Bounded, reach-below, reached-path, path-reached, Live, live}
use Rattle.soundness.specs.Laws.Spells.{Says, spells-says}
use Rattle.soundness.specs.Laws.Handle.{Precedes, tail-handle, handle-tail, may_precede_lem, may-not-precede, rules-from, rules-in}

-- ---- the least fault

-- what is said of the states below n
abbrev Finds : (ℕ → Option ℕ) → ℕ → Verdict → Type 0
Finds fault n sound = (k : ℕ) → k < n → fault k ≡ None
Finds fault n (unsound s r) = (s < n) × ((i : ℕ) × (r ≡ suc i) × (fault s ≡ Some i)) × ((k : ℕ) → k < s → fault k ≡ None)

module _ (fault : ℕ → Option ℕ) where
  finds-more : (n : ℕ) (w : Verdict) → Finds fault n w → (l : Option ℕ) → fault n ≡ l → Finds fault (suc n) (or_fault w l n)
  unfolding or_fault
  finds-more n (unsound s r) f l q = (omega (arith, f.0), f.1, f.2)
  finds-more n sound f (Some i) q = (omega arith, (i, refl, q), f)
  finds-more n sound f None q = λ k h. by k h (eqb k n) refl
    where
      by : (k : ℕ) → k < suc n → (b : Bool) → eqb k n ≡ b → fault k ≡ None
      by k h true e = rw (eqb-true k n e) q
      by k h false e = f k (let d : k ≢ n = eqb-false k n e in omega arith)

  finds : (n : ℕ) → Finds fault n (least_fault fault n)
  unfolding least_fault
  finds zero = λ k h. absurd (omega arith)
  finds (suc n) = finds-more n (least_fault fault n) (finds n) (fault n) refl

-- ---- a rule at a state, a state, all states

-- every path into s keeps the conditions for r
abbrev pub AllHandles : Grammar → Reads → ℕ → ℕ → Type 0
AllHandles g u r s = (ss xs : List ℕ) → PathTo g u s ss xs → Handle g u r s ss xs

-- a row reduces by rules 1..G
abbrev pub RulesIn : Grammar → Reads → Type 0
RulesIn g v = (s r : ℕ) → Reduces g v s r → (1 ≤ r) × (r ≤ g.G)

-- a path into s that fails for r
abbrev Breaks : Grammar → Reads → ℕ → ℕ → Type 0
Breaks g u r s = Failing g u (Precedes g u r) (reverse (g.right r)) s

module _ {g : Grammar} {u : Reads} {es : List Arc} (edges : Live g u es) (v : Reads) {s : ℕ} (reach : Reach g u s) where
  -- the paths into s end with the right side of r
  abbrev ended : ℕ → Bool
  ended r = spells es (may_precede g u r) (reverse (g.right r)) (s ∷ [])

  abbrev Ends : ℕ → Bool → Type 0
  Ends r = Says g u (Precedes g u r) (reverse (g.right r)) s

  ends : (r : ℕ) → Ends r (ended r)
  ends r = spells-says edges (Precedes g u r) (may_precede g u r) (may_precede_lem g u r) (may-not-precede g u r) (reverse (g.right r)) s reach

  abbrev passed : ℕ → Bool
  passed r = keeps g u es s r (among r (rules_at g v s))

  rule-kept : (r : ℕ) → passed r ≡ true → Reduces g v s r → AllHandles g u r s
  unfolding keeps
  rule-kept r h k = by (ended r) (rw (among_in r (rules_at g v s) (rules-in g v s k)) at h) (ends r)
    where
      by : (b : Bool) → b ≡ true → Ends r b → AllHandles g u r s
      by true e t ss xs w = tail-handle (t ss xs w)
      by false e t ss xs w = absurd (clash e refl)

  rule-broken : (r : ℕ) → passed r ≡ false → Reduces g v s r × Breaks g u r s
  unfolding keeps
  rule-broken r h = at (among r (rules_at g v s)) refl h
    where
      by : (b : Bool) → b ≡ false → Ends r b → Breaks g u r s
      by true e t = absurd (clash refl e)
      by false e t = t

      at : (b : Bool) → among r (rules_at g v s) ≡ b → keeps g u es s r b ≡ false → Reduces g v s r × Breaks g u r s
      at true q k = (rules-from g v s (among-from r (rules_at g v s) q), by (ended r) k (ends r))
      at false q k = absurd (clash refl k)

  row_kept : RulesIn g v → rule_fault g u es s (rules_at g v s) ≡ None → (r : ℕ) → Reduces g v s r → AllHandles g u r s
  unfolding rule_fault
  row_kept within e zero k = absurd (omega (arith, (within s zero k).0))
  row_kept within e (suc i) k = rule-kept (suc i) (nowhere-passed (λ i. passed (suc i)) g.G e i (within s (suc i) k).1) k

  -- the rule i + 1 fails, and none below it
  row-broken : RulesIn g v → (i : ℕ) → rule_fault g u es s (rules_at g v s) ≡ Some i
      → Reduces g v s (suc i) × Breaks g u (suc i) s × ((q : ℕ) → q < suc i → Reduces g v s q → AllHandles g u q s)
  unfolding rule_fault
  row-broken within i e =
      let l : Least (λ i. passed (suc i)) g.G i = at_least (λ i. passed (suc i)) g.G i e in
      let b : Reduces g v s (suc i) × Breaks g u (suc i) s = rule-broken (suc i) l.2 in
      (b.0, b.1, λ q h k. below q h k l.1)
    where
      below : (q : ℕ) → q < suc i → Reduces g v s q → ((k : ℕ) → k < i → passed (suc k) ≡ true) → AllHandles g u q s
      below zero h k f = absurd (omega (arith, (within s zero k).0))
      below (suc q) h k f = rule-kept (suc q) (f q (omega arith)) k

module _ (g : Grammar) (u v : Reads) (states : ℕ) (bounded : Bounded g u states) (within : RulesIn g v) where
  abbrev there : List ℕ
  there = reached (arcs g u states) states

  module _ {es : List Arc} (edges : Live g u es) where
    abbrev fault : ℕ → Option ℕ
    fault s = state_fault g u v es s (among s there)

    state-kept : (s : ℕ) → fault s ≡ None → (r : ℕ) → Reduces g v s r → AllHandles g u r s
    unfolding state_fault
    state-kept s e r k ss xs w =
        let reach : Reach g u s = record { states = ss; symbols = xs; path = w } in
        row_kept edges v reach within (rw (among_in s there (path-reached bounded reach)) at e) r k ss xs w

    state-broken : (s i : ℕ) → fault s ≡ Some i
        → Reduces g v s (suc i) × Breaks g u (suc i) s × ((q : ℕ) → q < suc i → Reduces g v s q → AllHandles g u q s)
    unfolding state_fault
    state-broken s i e = by (among s there) refl e
      where
        by : (b : Bool) → among s there ≡ b → state_fault g u v es s b ≡ Some i
            → Reduces g v s (suc i) × Breaks g u (suc i) s × ((q : ℕ) → q < suc i → Reduces g v s q → AllHandles g u q s)
        by true q k = row-broken edges v (reached-path bounded (among-from s there q)) within i k
        by false q k = let z : ◌≡◌ {A = ℕ} 0 1 = cc in absurd (omega arith)

    found : (w : Verdict) → Finds fault states w → IsVerdict g u v w
    found sound f = λ r s ss xs w k. state-kept s (f s (reach-below bounded (record { states = ss; symbols = xs; path = w }))) r k ss xs w
    found (unsound s r) f =
        let b : Reduces g v s (suc f.1.0) × Breaks g u (suc f.1.0) s × ((q : ℕ) → q < suc f.1.0 → Reduces g v s q → AllHandles g u q s) =
        state-broken s f.1.0 f.1.2 in
        rw f.1.1
        (record {
          reduces = b.0;
          states = b.1.states;
          symbols = b.1.symbols;
          path = b.1.path;
          fails = λ h. b.1.fails (handle-tail h);
          least = λ q p k h.
              ⊎_elim
              (λ l. state-kept p (f.2 p l) q k)
              (λ l. subst (λ (n : ℕ). AllHandles g u q n) (sym l.0) (b.2 q l.1 (subst (λ (n : ℕ). Reduces g v n q) l.0 k)))
              h;
        })

    judged : IsVerdict g u v (least_fault fault states)
    judged = found (least_fault fault states) (finds fault states)

  -- what is worked out is the verdict
  pub verdict-right : IsVerdict g u v (verdict g u v states)
  unfolding verdict verdict_from verdict_by verdict_of
  verdict-right = judged (live bounded)
