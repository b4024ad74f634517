use Rattle.std.proofs.Common.{◌≡◌, Bool, true, false, List, ℕ, ◌+◌, ◌-◌, ◌≤◌, ◌<◌, eqb, length, get_or, take, drop, sym, ◌∙◌, arith, rules}
use Rattle.tables.specs.declared.Sizes.{Sizes}
use Rattle.std.specs.Prelude.{Some, None}
use Rattle.tables.specs.Grammar.{good_sides, good_rule, lowest_rule}
use Rattle.tables.specs.Laws.Begins.{begins-first, begins-part, begins-next, ends-inside, ends-small}
use Rattle.tables.specs.Laws.Lowest.{walk-begin, walk-on, walk-bad, walk_end}
use Rattle.tables.specs.Laws.Size.{GrammarFits, grammar_fits_lem}
use Rattle.judgement.proofs.grammar.lowest_rule.Invariants.{Passing}
use Rattle.judgement.proofs.grammar.lowest_rule.Goals as goal

module _ {z : Sizes} {left lens rights : List ℕ} (fit : GrammarFits z left lens rights) where
  begin : Passing z left lens rights 0 0
  begin = record { begins = begins-first lens; walk = walk-begin }

  is_left : {i : ℕ} → i < length lens → i < length left
  is_left h = omega (arith, fit.lefts, fit.lengths)

  module _ {i from : ℕ} (inv : Passing z left lens rights i from) (h : i < length left) where
    is-rule : i < length lens
    is-rule = omega (arith, fit.lefts, fit.lengths)

    -- what the code's test of the sides says
    told : (b : Bool) → b ≡ good_sides z (eqb i 0) (get_or left i 0) (take (from + get_or lens i 0 - from) (drop from rights))
        → good_rule z left lens rights i ≡ b
    unfolding good_rule
    told b e = sym (rw (begins-part lens rights inv.begins) at e)

    next : good_rule z left lens rights i ≡ true → Passing z left lens rights (i + 1) (from + get_or lens i 0)
    next g = record { begins = begins-next fit inv.begins h; walk = walk-on inv.walk (omega (arith, fit.lefts)) g }

    bad : good_rule z left lens rights i ≡ false → Some i ≡ lowest_rule z left lens rights
    unfolding lowest_rule
    bad g = walk-bad inv.walk (omega (arith, fit.lefts)) g

  none : {i from : ℕ} → Passing z left lens rights i from → length left ≤ i → None ≡ lowest_rule z left lens rights
  unfolding lowest_rule
  none inv h = walk_end inv.walk (omega (arith, fit.lefts))

pub loop-i-init : goal.loop-i-init
loop-i-init c = begin (grammar_fits_lem _ _ _ _ c.requires)

pub bounds-grammar-i : goal.bounds-grammar-i
bounds-grammar-i c = is_left (grammar_fits_lem _ _ _ _ c.requires) c.loop-i-test.true

pub overflow_add-to : goal.overflow_add-to
overflow_add-to c =
    let f : GrammarFits _ _ _ _ = grammar_fits_lem _ _ _ _ c.requires in
    let r : c.loop-i.from + get_or c.args.grammar.lens.now c.loop-i.i 0 ≤ 65536 = ends-small f c.loop-i.invariant.begins (omega (arith, f.lefts, f.lengths)) in
    record { fits = omega arith }

pub offset_bounds-grammar-from : goal.offset_bounds-grammar-from
offset_bounds-grammar-from c =
    let f : GrammarFits _ _ _ _ = grammar_fits_lem _ _ _ _ c.requires in
    let r : c.loop-i.from + get_or c.args.grammar.lens.now c.loop-i.i 0 ≤ 65536 = ends-small f c.loop-i.invariant.begins (omega (arith, f.lefts, f.lengths)) in
    record { fits = omega arith }

pub slice_bounds-sides_good-end : goal.slice_bounds-sides_good-end
slice_bounds-sides_good-end c =
    let f : GrammarFits _ _ _ _ = grammar_fits_lem _ _ _ _ c.requires in
    let r : c.loop-i.from + get_or c.args.grammar.lens.now c.loop-i.i 0 ≤ length c.args.grammar.rights.now =
    ends-inside f c.loop-i.invariant.begins (omega (arith, f.lefts, f.lengths)) in
    search rules

pub returns-then-not-sides_good-clause-lowest : goal.returns-then-not-sides_good-clause-lowest
returns-then-not-sides_good-clause-lowest c =
    let f : GrammarFits _ _ _ _ = grammar_fits_lem _ _ _ _ c.requires in
    let h = is_left f c.loop-i-test.true in
    bad f c.loop-i.invariant h (told f c.loop-i.invariant h _ c.sides_good.ensures ∙ c.if-not-sides_good.true)

pub returns-then-not-sides_good-clause-below : goal.returns-then-not-sides_good-clause-below
returns-then-not-sides_good-clause-below c =
    let f : GrammarFits _ _ _ _ = grammar_fits_lem _ _ _ _ c.requires in
    omega (arith, f.lengths)

pub loop-i-preserved : goal.loop-i-preserved
loop-i-preserved c =
    let f : GrammarFits _ _ _ _ = grammar_fits_lem _ _ _ _ c.requires in
    let h = is_left f c.loop-i-test.true in
    next f c.loop-i.invariant h (told f c.loop-i.invariant h _ c.sides_good.ensures ∙ c.if-not-sides_good.false)

pub returns-clause-lowest : goal.returns-clause-lowest
returns-clause-lowest c =
    let f : GrammarFits _ _ _ _ = grammar_fits_lem _ _ _ _ c.requires in
    none f c.loop-i.invariant (let l : length c.args.grammar.lens.now ≤ c.loop-i.i = search rules in omega (arith, f.lefts, f.lengths))
