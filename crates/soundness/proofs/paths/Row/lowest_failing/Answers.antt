use Rattle.std.proofs.Common.{rules, ◌≡◌, refl, sym, ◌∙◌, true, false, ◌<◌, ◌≤◌, ◌+◌, ℕ, suc, length, get_or, arith, add-one, below_more}
use Rattle.std.proofs.lemmas.Bool.{not-true, not-false}
use Rattle.tables.specs.Laws.Begins.{begins-first, begins-part, begins-next, ends-inside, ends-small}
use Rattle.tables.specs.Laws.Lowest.{lowest-at, lowest-nowhere}
use Rattle.soundness.specs.declared.paths.Judged.{Judged}
use Rattle.soundness.specs.Laws.Judged.{kept_at, judged-fits}
use Rattle.soundness.specs.Laws.Faults.{rule-sides, row-fault}
use Rattle.soundness.proofs.paths.Row.lowest_failing.Goals as goal

module _ (j : Judged) {i : ℕ} (h : i < length j.grammar.lens.now) where
  in-left : i < length j.grammar.left.now
  in-left = omega (arith, (judged-fits j).lefts, (judged-fits j).lengths)

  in-rules : i < j.grammar.sizes.rules
  in-rules = omega (arith, (judged-fits j).lengths)

  small : i < 1024
  small = omega (arith, in-rules, (judged-fits j).numbers.rules.most)

pub loop-i-init : goal.loop-i-init
loop-i-init c = record { begins = begins-first c.args.self.paths.judged.grammar.lens.now; kept = λ k h. absurd (omega arith) }

pub overflow_add-to : goal.overflow_add-to
overflow_add-to c =
    let j = c.args.self.paths.judged in
    record { fits = omega (arith, ends-small (judged-fits j) c.loop-i.invariant.begins (in-left j c.loop-i-test.true)) }

pub overflow_cast-rule : goal.overflow_cast-rule
overflow_cast-rule c = record { fits = omega (arith, small c.args.self.paths.judged c.loop-i-test.true) }

pub overflow_add-rule : goal.overflow_add-rule
overflow_add-rule c = record { fits = omega (arith, small c.args.self.paths.judged c.loop-i-test.true) }

pub bounds-grammar-i : goal.bounds-grammar-i
bounds-grammar-i c = in-left c.args.self.paths.judged c.loop-i-test.true

pub offset_bounds-grammar-from : goal.offset_bounds-grammar-from
offset_bounds-grammar-from c =
    let j = c.args.self.paths.judged in
    record { fits = omega (arith, ends-small (judged-fits j) c.loop-i.invariant.begins (in-left j c.loop-i-test.true)) }

pub slice_bounds-rule-end : goal.slice_bounds-rule-end
slice_bounds-rule-end c =
    let j = c.args.self.paths.judged in
    let r : c.loop-i.from + get_or j.grammar.lens.now c.loop-i.i 0 ≤ length j.grammar.rights.now = ends-inside (judged-fits j) c.loop-i.invariant.begins (in-left j c.loop-i-test.true) in
    search rules

pub breaks-requires-clause-sides : goal.breaks-requires-clause-sides
breaks-requires-clause-sides c =
    let j = c.args.self.paths.judged in
    rule-sides j _ c.loop-i.i (in-rules j c.loop-i-test.true) refl refl (begins-part j.grammar.lens.now j.grammar.rights.now c.loop-i.invariant.begins)

pub returns-then-breaks-clause-lowest : goal.returns-then-breaks-clause-lowest
returns-then-breaks-clause-lowest c =
    let j = c.args.self.paths.judged in
    let bad : kept_at j c.args.self.state (suc c.loop-i.i) ≡ false = rw (add-one c.loop-i.i) at (not-true _ (sym c.breaks.ensures ∙ c.if-breaks.true)) in
    sym (lowest-at _ _ _ (in-rules j c.loop-i-test.true) c.loop-i.invariant.kept bad) ∙ row-fault j c.args.self.reached

pub returns-then-breaks-clause-below : goal.returns-then-breaks-clause-below
returns-then-breaks-clause-below c = small c.args.self.paths.judged c.loop-i-test.true

pub loop-i-preserved : goal.loop-i-preserved
loop-i-preserved c =
    let j = c.args.self.paths.judged in
    let good : kept_at j c.args.self.state (suc c.loop-i.i) ≡ true = rw (add-one c.loop-i.i) at (not-false _ (sym c.breaks.ensures ∙ c.if-breaks.false)) in
    record {
      begins = begins-next (judged-fits j) c.loop-i.invariant.begins (in-left j c.loop-i-test.true);
      kept = below_more (λ k. kept_at j c.args.self.state (suc k) ≡ true) _ c.loop-i.invariant.kept good;
    }

pub returns-clause-lowest : goal.returns-clause-lowest
returns-clause-lowest c =
    let j = c.args.self.paths.judged in
    sym (lowest-nowhere _ _ (λ k h. c.loop-i.invariant.kept k (let l : k < c.loop-i.i = omega (arith, c.loop-i-test.false, (judged-fits j).lengths) in l))) ∙ row-fault j c.args.self.reached
