use Rattle.std.proofs.Common.{sym, ◌∙◌, arith}
use Rattle.parser.specs.Laws.Judged.{packed-cells, packed-limit, grammar-sizes}
use Rattle.parser.proofs.parse.parse.Goals as goal

pub invariant_of-reads : goal.invariant_of-reads
invariant_of-reads c = record { fit = packed-cells _ _ _ _ (sym c.packed_fits.ensures ∙ c.if-not-packed_fits.false) }

pub invariant_of-task : goal.invariant_of-task
invariant_of-task c =
    let g = grammar-sizes _ _ _ _ (sym c.in_ok-judge_grammar.ensures) in
    record {
      lefts = omega (arith, g.lefts);
      lengths = omega (arith, g.lengths);
      ruled = omega arith;
      bounded = packed-limit _ _ _ _ (sym c.packed_fits.ensures ∙ c.if-not-packed_fits.false);
    }
