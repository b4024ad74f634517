-- One state and one rule: what the code finds on the paths is what the check works out. Assumes nothing.
use Rattle.std.specs.Prelude.{◌≡◌, refl, Bool, true, false, not, cond, List, reverse, ℕ, zero, suc, ◌+◌, ◌-◌, ◌≤◌, ◌<◌, length, get_or, None, is_some, ◌==◌}
use Rattle.std.proofs.Common.{sym, ap, ◌∙◌, arith, eqb-true, eq-eqb}
use Rattle.std.proofs.lemmas.Bool.{eqb-false}
use Rattle.std.proofs.Math.Bool.{Bool-set}
use Rattle.std.proofs.Math.Logic.{∥∥₁_elim}
use Rattle.tables.specs.declared.Sizes.{Sizes}
use Rattle.tables.specs.Lists.{among, lowest}
use Rattle.tables.specs.Grammar.{Grammar, grammar, right_at}
use Rattle.tables.specs.Entry.{goto_at}
use Rattle.tables.specs.Laws.Members.{among-from, among_in}
use Rattle.reads.specs.Reads.{Reads}
use Rattle.soundness.specs.declared.paths.Judged.{Judged}
use Rattle.soundness.specs.declared.rule.Rule.{Rule}
use Rattle.soundness.specs.Path.{PathTo, Reach}
use Rattle.soundness.specs.Check.{may_precede, keeps, rules_at, rule_fault, state_fault}
use Rattle.soundness.specs.Laws.Tail.{Tail}
use Rattle.soundness.specs.Laws.Spells.{Says, spells-says}
use Rattle.soundness.specs.Laws.Reached.{reached-path, path-reached, live}
use Rattle.soundness.specs.Laws.Handle.{Precedes, may_precede_lem, may-not-precede}
use Rattle.soundness.specs.Laws.Edges.{goto-there, there-goto, bare, path-any, bare-T, bare-M, Reached}
use Rattle.soundness.specs.Laws.Judged.{grammar_of, unsigned_of, filled_of, all_reached, live_arcs, ends_at, kept_at, fault_at, judged-bounded, judged-rules, judged-fits}
use Rattle.soundness.specs.Laws.Back.{Before, Answers}

-- what the condition on the state before implies, may stand for it
tail-map : {F E : ℕ → Type 0} → ((t : ℕ) → F t → E t) → {ys ss xs : List ℕ} {s : ℕ} → Tail F ys s ss xs → Tail E ys s ss xs
tail-map f t = record { rest = t.rest; spelt = t.spelt; before = t.before; earlier = t.earlier; left_there = t.left_there; holds = f t.before t.holds }

-- a rule of the grammar, with its number and its sides
pub record Sides (j : Judged) (rule : Rule) : Type 0 where
  pub least : 1 ≤ rule.number
  pub most : rule.number ≤ j.grammar.sizes.rules
  pub left_is : rule.left ≡ (grammar_of j).left rule.number
  pub right_is : rule.right.now ≡ (grammar_of j).right rule.number

module _ (j : Judged) where
  -- its numbers, and its reads
  abbrev z : Sizes
  z = j.grammar.sizes

  abbrev g : Grammar
  g = grammar_of j

  abbrev u : Reads
  u = unsigned_of j

  abbrev v : Reads
  v = filled_of j

  -- a rule with the sides that stand at place i
  pub rule-sides : (rule : Rule) (i : ℕ) → i < z.rules → rule.number ≡ i + 1 → rule.left ≡ get_or j.grammar.left.now i 0
      → rule.right.now ≡ right_at j.grammar.lens.now j.grammar.rights.now i → Sides j rule
  unfolding grammar
  rule-sides rule i h n l r =
      let e : rule.number - 1 ≡ i = omega arith in
      record {
        least = omega arith;
        most = omega arith;
        left_is = l ∙ ap (λ (k : ℕ). get_or j.grammar.left.now k 0) (sym e);
        right_is = r ∙ ap (λ (k : ℕ). right_at j.grammar.lens.now j.grammar.rights.now k) (sym e);
      }

  -- a symbol on a right side is below M
  right-below : (n : ℕ) → 1 ≤ n → n ≤ z.rules → (k : ℕ) → k < length (g.right n) → get_or (g.right n) k 0 < z.symbols
  unfolding grammar
  right-below zero l h k b = absurd (omega arith)
  right-below (suc zero) l h zero b = (judged-rules j).first.goes_to.below
  right-below (suc zero) l h (suc k) b = absurd (let e : length (g.right 1) ≡ 1 = (judged-rules j).first.one in omega arith)
  right-below (suc (suc n)) l h k b = (((judged-rules j).later (suc (suc n)) (omega arith) h).to k b).below

  -- a path is one over the grammar's symbols alone
  whole-path : {s : ℕ} {ss xs : List ℕ} → PathTo (bare z) u s ss xs → PathTo g u s ss xs
  whole-path = path-any (bare-T z j.grammar.left.now j.grammar.lens.now j.grammar.rights.now) (bare-M z j.grammar.left.now j.grammar.lens.now j.grammar.rights.now)

  bare-path : {s : ℕ} {ss xs : List ℕ} → PathTo g u s ss xs → PathTo (bare z) u s ss xs
  bare-path = path-any (sym (bare-T z j.grammar.left.now j.grammar.lens.now j.grammar.rights.now)) (sym (bare-M z j.grammar.left.now j.grammar.lens.now j.grammar.rights.now))

  whole : {s : ℕ} → Reached z j.table.entries.now s → Reach g u s
  whole r = record { states = r.states; symbols = r.symbols; path = whole-path r.path }

  part : {s : ℕ} → Reach g u s → Reached z j.table.entries.now s
  part r = record { states = r.states; symbols = r.symbols; path = bare-path r.path }

  module _ {rule : Rule} (k : Sides j rule) where
    abbrev n : ℕ
    n = rule.number

    pub sides-small : n ≤ 1024
    sides-small = omega (arith, k.most, (judged-fits j).numbers.rules.most)

    pub sides-below : (i : ℕ) → i < length rule.right.now → get_or rule.right.now i 0 < z.symbols
    sides-below i h = rw k.right_is (right-below n k.least k.most i (rw k.right_is at h))

    -- the test of the state before the rule is the condition on it
    before-precedes : (t : ℕ) → Before j rule t → Precedes g u n t
    before-precedes t h = by (n == 1) refl h
      where
        by : (b : Bool) → (n == 1) ≡ b → cond b (t == 0) (is_some (goto_at z j.table.entries.now t rule.left)) ≡ true → Precedes g u n t
        by true q e = (λ o. eqb-true t 0 e, λ o. absurd (o (eqb-true n 1 q)))
        by false q e = (λ o. absurd (eqb-false n 1 q o), λ o. rw k.left_is at (there-goto z j.table.entries.now t rule.left e))

    precedes-before : (t : ℕ) → Precedes g u n t → Before j rule t
    precedes-before t p = by (n == 1) refl
      where
        by : (b : Bool) → (n == 1) ≡ b → cond b (t == 0) (is_some (goto_at z j.table.entries.now t rule.left)) ≡ true
        by true q = eq-eqb t 0 (p.0 (eqb-true n 1 q))
        by false q = goto-there z j.table.entries.now t rule.left (rw k.left_is (p.1 (eqb-false n 1 q)))

    -- what is found of the paths into s is what is worked out
    pub answer-ends : {s : ℕ} → Reached z j.table.entries.now s → (b : Bool) → Answers j rule s b → b ≡ not (ends_at j s n)
    answer-ends {s} r b a = by b (ends_at j s n) a says
      where
        says : Says g u (Precedes g u n) (reverse (g.right n)) s (ends_at j s n)
        says = spells-says (live (judged-bounded j)) (Precedes g u n) (may_precede g u n) (may_precede_lem g u n) (may-not-precede g u n) (reverse (g.right n)) s (whole r)

        by : (b d : Bool) → Answers j rule s b → Says g u (Precedes g u n) (reverse (g.right n)) s d → b ≡ not d
        by true true f t = absurd (f.fails (tail-map precedes-before (rw (← k.right_is) at (t f.states f.symbols (whole-path f.path)))))
        by true false f t = refl
        by false true a t = refl
        by false false a f = absurd (f.fails (tail-map before-precedes (rw k.right_is at (a f.states f.symbols (bare-path f.path)))))

  -- the rule is one of the row's, and fails
  pub row-breaks : (s n : ℕ) → among n (rules_at g v s) ≡ true → not (ends_at j s n) ≡ not (kept_at j s n)
  unfolding keeps
  row-breaks s n h = rw h

  pub row-keeps : (s n : ℕ) → among n (rules_at g v s) ≡ false → false ≡ not (kept_at j s n)
  unfolding keeps
  row-keeps s n h = rw h

  -- the lowest fault of a reached state is the lowest rule that fails; of another there is none
  pub row-fault : {s : ℕ} → ∥ Reached z j.table.entries.now s ∥₁ → lowest (λ i. kept_at j s (suc i)) z.rules ≡ fault_at j s
  unfolding state_fault rule_fault grammar
  row-fault {s} r =
      let there : among s (all_reached j) ≡ true =
      ∥∥₁_elim r (Bool-set _ _) (λ p. among_in s (all_reached j) (path-reached (judged-bounded j) (whole p))) in
      rw there

  pub no-fault : {s : ℕ} → (Reached z j.table.entries.now s → ⊥) → None ≡ fault_at j s
  unfolding state_fault
  no-fault {s} n = by (among s (all_reached j)) refl
    where
      by : (b : Bool) → among s (all_reached j) ≡ b → None ≡ state_fault g u v (live_arcs j) s b
      by true q = absurd (n (part (reached-path (judged-bounded j) (among-from s (all_reached j) q))))
      by false q = refl
