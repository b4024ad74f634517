use Rattle.std.proofs.Common.{sym, ◌∙◌}
use Rattle.parser.specs.Laws.Judged.{packed-cells, packed-limit}
use Rattle.parser.proofs.step.step.Goals as goal

pub invariant_of-reads : goal.invariant_of-reads
invariant_of-reads c = record { fit = packed-cells _ _ _ _ (sym c.packed_fits.ensures ∙ c.if-not-packed_fits.false) }

pub invariant_of-task-clause-bounded : goal.invariant_of-task-clause-bounded
invariant_of-task-clause-bounded c = packed-limit _ _ _ _ (sym c.packed_fits.ensures ∙ c.if-not-packed_fits.false)
