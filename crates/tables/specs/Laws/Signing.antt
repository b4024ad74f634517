-- What a signature is where SIGN does not name it, and what a signing is where SIGN is not said. Assumes nothing.
use Rattle.std.proofs.lemmas.Bool.{eqb-false, not-true}
use Rattle.std.specs.Prelude.{◌≡◌, ◌≢◌, Bool, ◌&&◌, ◌||◌, List, ℕ, ◌+◌, ◌-◌, ◌≤◌, ◌<◌, leb, length, take, position}
use Rattle.std.proofs.Math.Path.{refl}
use Rattle.std.proofs.Common.{sym, ap, ◌∙◌, arith, lt-ltb, ltb-true, ltb-false, le-leb, leb-true, eq-eqb, ne_eqb, eqb-true}
use Rattle.std.proofs.Math.Logic.{⊎_elim}
use Rattle.std.proofs.Math.Bool.{true, false, not}
use Rattle.std.proofs.Math.Dec.{ltb, eqb}
use Rattle.std.proofs.Math.ListN.{get_or, get_or-eq_default}
use Rattle.tables.specs.declared.Sizes.{Sizes}
use Rattle.tables.specs.Lists.{among}
use Rattle.tables.specs.Signing.{Signing, signing, good_signature, good_target, lowest_state}
use Rattle.tables.specs.Laws.Tests.{and-true, or-true}
use Rattle.tables.specs.Laws.Lists.{among-at, not-among}
use Rattle.tables.specs.Verdict.{Passed}
use Rattle.tables.specs.Laws.Lowest.{position_lowest}

-- the lowest bad state is the first place of a bad signature
pub lowest_state_is : (z : Sizes) (srule : List ℕ) → lowest_state z srule ≡ position (λ r. not (good_signature z r)) srule
unfolding lowest_state
lowest_state_is z srule = sym (position_lowest (good_signature z) srule)

-- ---- the tests and what they mean

-- 0 or a rule 2..G
pub data RuleSigned (G r : ℕ) : Type 0 where
  unsigned : r ≡ 0 → RuleSigned G r
  by-rule : 2 ≤ r → r ≤ G → RuleSigned G r

module _ (z : Sizes) (r : ℕ) where
  pub signature-ok : good_signature z r ≡ true → RuleSigned z.rules r
  unfolding good_signature
  signature-ok e =
      ⊎_elim
      (λ q. unsigned (eqb-true r 0 q))
      (λ q.
      let p : (leb 2 r ≡ true) × (leb r z.rules ≡ true) = and-true (leb 2 r) q in
      by-rule (leb-true _ _ p.0) (leb-true _ _ p.1))
      (or-true (eqb r 0) e)

  pub ok-signature : RuleSigned z.rules r → good_signature z r ≡ true
  unfolding good_signature
  ok-signature (unsigned e) = rw (eq-eqb _ _ e)
  ok-signature (by-rule l h) = rw (ne_eqb r 0 (λ q. omega arith), le-leb _ _ l) (le-leb _ _ h)

-- 0, or a state 1..L-1 of a nonterminal other than T that no earlier one signs
pub data TargetSigned (states : ℕ) (sgoto : List ℕ) (i : ℕ) : Type 0 where
  unsigned : get_or sgoto i 0 ≡ 0 → TargetSigned states sgoto i
  by_state : i ≢ 0 → 1 ≤ get_or sgoto i 0 → get_or sgoto i 0 < states → ((k : ℕ) → k < i → get_or sgoto k 0 ≢ get_or sgoto i 0)
      → TargetSigned states sgoto i

module _ (states : ℕ) (sgoto : List ℕ) (i : ℕ) (h : i < length sgoto) where
  pub target_ok : good_target states sgoto i ≡ true → TargetSigned states sgoto i
  unfolding good_target
  target_ok e = at (eqb (get_or sgoto i 0) 0) refl e
    where
      at : (b : Bool) → eqb (get_or sgoto i 0) 0 ≡ b
          → (b || (not (eqb i 0) && (ltb (get_or sgoto i 0) states && not (among (get_or sgoto i 0) (take i sgoto))))) ≡ true
          → TargetSigned states sgoto i
      at true q g = TargetSigned.unsigned (eqb-true _ _ q)
      at false q g =
          let p : (not (eqb i 0) ≡ true) × _ = and-true (not (eqb i 0)) g in
          let r : (ltb (get_or sgoto i 0) states ≡ true) × _ = and-true (ltb (get_or sgoto i 0) states) p.1 in
          let n : get_or sgoto i 0 ≡ 0 → ⊥ = eqb-false _ _ q in
          TargetSigned.by_state (eqb-false _ _ (not-true _ p.0)) (omega arith) (ltb-true _ _ r.0)
          (λ k l. not-among sgoto i h (not-true _ r.1) k l)

  pub ok-target : TargetSigned states sgoto i → good_target states sgoto i ≡ true
  unfolding good_target
  ok-target (TargetSigned.unsigned e) = rw (eq-eqb _ _ e)
  ok-target (TargetSigned.by_state n p l a) =
      rw (ne_eqb (get_or sgoto i 0) 0 (λ q. omega arith), ne_eqb _ _ n, lt-ltb _ _ l, among-at sgoto i h (λ k m. a k m))

-- ---- a signing whose signatures are all good

pub record SigningOk (z : Sizes) (states : ℕ) (y : Signing) : Type 0 where
  pub rules : (s : ℕ) → RuleSigned z.rules (y.rule s)
  pub targets : (x : ℕ) → y.target x < states
  pub start_none : y.target z.terminals ≡ 0
  pub apart : (x u : ℕ) → x ≢ u → z.terminals ≤ x → z.terminals ≤ u → y.target x ≢ 0 → y.target x ≢ y.target u

module _ (z : Sizes) (states : ℕ) (srule sgoto : List ℕ) (some : 1 ≤ states) where
  module _ (p : Passed (good_target states sgoto) (length sgoto)) where
    at : (i : ℕ) → TargetSigned states sgoto i
    at i = by (ltb i (length sgoto)) refl
      where
        by : (b : Bool) → ltb i (length sgoto) ≡ b → TargetSigned states sgoto i
        by true q = target_ok states sgoto i (ltb-true _ _ q) (p i (ltb-true _ _ q))
        by false q = TargetSigned.unsigned (get_or-eq_default sgoto 0 (ltb-false _ _ q))

    below : (i : ℕ) → TargetSigned states sgoto i → get_or sgoto i 0 < states
    below i (TargetSigned.unsigned e) = omega arith
    below i (TargetSigned.by_state n l h a) = h

    differ : (i k : ℕ) → i < k → TargetSigned states sgoto k → get_or sgoto k 0 ≢ 0 → get_or sgoto i 0 ≢ get_or sgoto k 0
    differ i k l (TargetSigned.unsigned e) n q = n e
    differ i k l (TargetSigned.by_state m h b a) n q = a i l q

    start : TargetSigned states sgoto 0 → get_or sgoto 0 0 ≡ 0
    start (TargetSigned.unsigned e) = e
    start (TargetSigned.by_state n l h a) = absurd (n refl)

  pub signing-ok : Passed (λ s. good_signature z (get_or srule s 0)) (length srule) → Passed (good_target states sgoto) (length sgoto)
      → SigningOk z states (signing z srule sgoto)
  unfolding signing
  signing-ok p q =
      record {
        rules = λ s. rule s (ltb s (length srule)) refl;
        targets = λ x. below q (x - z.terminals) (at q (x - z.terminals));
        start_none = let e : z.terminals - z.terminals ≡ 0 = omega arith in rw e (start q (at q 0));
        apart = λ x u d h k n e. two x u d h k n e (ltb x u) refl;
      }
    where
      rule : (s : ℕ) (b : Bool) → ltb s (length srule) ≡ b → RuleSigned z.rules (get_or srule s 0)
      rule s true e = signature-ok z _ (p s (ltb-true _ _ e))
      rule s false e = unsigned (get_or-eq_default srule 0 (ltb-false _ _ e))

      two : (x u : ℕ) → x ≢ u → z.terminals ≤ x → z.terminals ≤ u → get_or sgoto (x - z.terminals) 0 ≢ 0
          → get_or sgoto (x - z.terminals) 0 ≡ get_or sgoto (u - z.terminals) 0 → (b : Bool) → ltb x u ≡ b → ⊥
      two x u d h k n e true c =
          let l : x < u = ltb-true _ _ c in
          differ q (x - z.terminals) (u - z.terminals) (omega arith) (at q (u - z.terminals)) (λ r. n (e ∙ r)) e
      two x u d h k n e false c =
          let l : u ≤ x = ltb-false _ _ c in
          differ q (u - z.terminals) (x - z.terminals) (omega arith) (at q (x - z.terminals)) n (sym e)

  module _ (y : SigningOk z states (signing z srule sgoto)) where
    pub ok-signatures : Passed (λ s. good_signature z (get_or srule s 0)) (length srule)
    unfolding signing
    ok-signatures s h = ok-signature z _ (y.rules s)

    pub ok-targets : Passed (good_target states sgoto) (length sgoto)
    unfolding signing
    ok-targets i h = ok-target states sgoto i h (by (eqb (get_or sgoto i 0) 0) refl)
      where
        -- the nonterminal with index k is T + k
        back : (k : ℕ) → z.terminals + k - z.terminals ≡ k
        back k = omega arith

        signed : (k : ℕ) → get_or sgoto (z.terminals + k - z.terminals) 0 ≡ get_or sgoto k 0
        signed k = ap (λ (j : ℕ). get_or sgoto j 0) (back k)

        by : (b : Bool) → eqb (get_or sgoto i 0) 0 ≡ b → TargetSigned states sgoto i
        by true q = TargetSigned.unsigned (eqb-true _ _ q)
        by false q =
            let n : get_or sgoto i 0 ≡ 0 → ⊥ = eqb-false _ _ q in
            TargetSigned.by_state
            (λ e. n (ap (λ (j : ℕ). get_or sgoto j 0) e ∙ sym (signed 0) ∙ ap (λ (j : ℕ). get_or sgoto (j - z.terminals) 0) (let u : z.terminals + 0 ≡ z.terminals = omega arith in u) ∙ y.start_none))
            (omega arith)
            (rw (signed i) at (y.targets (z.terminals + i)))
            (λ k l e.
            y.apart (z.terminals + i) (z.terminals + k) (λ u. omega arith) (omega arith) (omega arith) (λ u. n (sym (signed i) ∙ u))
            (signed i ∙ sym e ∙ sym (signed k)))
