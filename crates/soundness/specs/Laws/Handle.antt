-- A handle is a tail of its path, with the condition on the state before it; the rules that a row reduces by are those in its list. Assumes nothing.
use Rattle.std.specs.Prelude.{◌≡◌, ◌≢◌, Bool, ℕ, ◌<◌, drop, refl, true, false, cond, List, ◌∷◌, reverse, eqb}
use Rattle.std.proofs.Common.{ap, sym, ◌∙◌, eqb-true}
use mathlib.Core.List.{Memᴰ}
use Rattle.std.proofs.lemmas.List.{length-reverse}
use Rattle.std.proofs.lemmas.Bool.{eqb-false}
use Rattle.tables.specs.Grammar.{Grammar}
use Rattle.tables.specs.Laws.Tests.{clash}
use Rattle.reads.specs.Reads.{Act, shift, reduce, accept, blank, malformed, Go, goes, nowhere, broken, Reads}
use Rattle.soundness.specs.Verdict.{Reduces, by-rule, by-accept, Handle}
use Rattle.soundness.specs.Check.{is_there, may_precede, rule_of, rules_at}
use Rattle.soundness.specs.Laws.Tail.{Tail}
use Rattle.soundness.specs.Laws.Lists.{collect-in, collect-from}

-- the condition on the state before the right side of r
abbrev pub Precedes : Grammar → Reads → ℕ → ℕ → Type 0
Precedes g u r p = (r ≡ 1 → p ≡ 0) × (r ≢ 1 → u.go p (g.left r) ≢ nowhere)

module _ {g : Grammar} {u : Reads} {r s : ℕ} {ss xs : List ℕ} where
  pub tail-handle : Tail (Precedes g u r) (reverse (g.right r)) s ss xs → Handle g u r s ss xs
  tail-handle t =
      record {
        rest = t.rest;
        spelt = t.spelt;
        before = t.before;
        earlier = t.earlier;
        left_there = ap (λ (n : ℕ). drop n (s ∷ ss)) (sym (length-reverse (g.right r))) ∙ t.left_there;
        ends = t.holds.0;
        leads = t.holds.1;
      }

  pub handle-tail : Handle g u r s ss xs → Tail (Precedes g u r) (reverse (g.right r)) s ss xs
  handle-tail h =
      record {
        rest = h.rest;
        spelt = h.spelt;
        before = h.before;
        earlier = h.earlier;
        left_there = ap (λ (n : ℕ). drop n (s ∷ ss)) (length-reverse (g.right r)) ∙ h.left_there;
        holds = (h.ends, h.leads);
      }

-- ---- the test of the state before

there-not : (x : Go) → is_there x ≡ true → x ≢ nowhere
there-not x h e = clash h (ap is_there e)

not_there : (x : Go) → is_there x ≡ false → x ≡ nowhere
not_there (goes t) h = absurd (clash refl h)
not_there nowhere h = refl
not_there broken h = absurd (clash refl h)

module _ (g : Grammar) (u : Reads) (r p : ℕ) where
  pub may_precede_lem : may_precede g u r p ≡ true → Precedes g u r p
  unfolding may_precede
  may_precede_lem h = by (eqb r 1) refl h
    where
      by : (b : Bool) → eqb r 1 ≡ b → cond b (eqb p 0) (is_there (u.go p (g.left r))) ≡ true → Precedes g u r p
      by true q k = (λ e. eqb-true p 0 k, λ n. absurd (n (eqb-true r 1 q)))
      by false q k = (λ e. absurd (eqb-false r 1 q e), λ n. there-not (u.go p (g.left r)) k)

  pub may-not-precede : may_precede g u r p ≡ false → Precedes g u r p → ⊥
  unfolding may_precede
  may-not-precede h f = by (eqb r 1) refl h
    where
      by : (b : Bool) → eqb r 1 ≡ b → cond b (eqb p 0) (is_there (u.go p (g.left r))) ≡ false → ⊥
      by true q k = eqb-false p 0 k (f.0 (eqb-true r 1 q))
      by false q k = f.1 (eqb-false r 1 q) (not_there (u.go p (g.left r)) k)

-- ---- the rules of a row

rule-in : {v : Reads} {s a r : ℕ} (x : Act) → v.act s a ≡ x → Memᴰ r (rule_of x) → (g : Grammar) → a < g.T → Reduces g v s r
rule-in (shift _) e m g h = elim m [ ]
rule-in blank e m g h = elim m [ ]
rule-in malformed e m g h = elim m [ ]
rule-in {v} {s} {a} (reduce q) e m g h = rw (mathlib.Core.List.Memᴰ.eq_of_singleton m) (by-rule a h e)
rule-in {v} {s} {a} accept e m g h = rw (mathlib.Core.List.Memᴰ.eq_of_singleton m) (by-accept a h e)

module _ (g : Grammar) (v : Reads) (s : ℕ) where
  pub rules-from : {r : ℕ} → Memᴰ r (rules_at g v s) → Reduces g v s r
  unfolding rules_at
  rules-from {r} m =
      let w : (a : ℕ) × (a < g.T) × Memᴰ r (rule_of (v.act s a)) = collect-from (λ a. rule_of (v.act s a)) g.T m in
      rule-in (v.act s w.0) refl w.2 g w.1

  pub rules-in : {r : ℕ} → Reduces g v s r → Memᴰ r (rules_at g v s)
  unfolding rules_at
  rules-in {r} (by-rule a h e) =
      let m : Memᴰ r (rule_of (v.act s a)) = rw e (mathlib.Core.List.Memᴰ.head refl) in
      collect-in (λ a. rule_of (v.act s a)) g.T a h m
  rules-in (by-accept a h e) =
      let m : Memᴰ 1 (rule_of (v.act s a)) = rw e (mathlib.Core.List.Memᴰ.head refl) in
      collect-in (λ a. rule_of (v.act s a)) g.T a h m
