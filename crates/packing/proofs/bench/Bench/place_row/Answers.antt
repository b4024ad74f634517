use Rattle.std.proofs.Common.{sym, ◌∙◌}
use Rattle.packing.specs.Job.{job_of}
use Rattle.packing.specs.Lent.{asked}
use Rattle.packing.specs.Laws.Turns.{row_placed, row_unplaced}
use Rattle.packing.proofs.bench.Bench.place_row.Goals as goal

pub returns-then-not-all_inside-clause-cells : goal.returns-then-not-all_inside-clause-cells
unfolding job_of
returns-then-not-all_inside-clause-cells c =
    row_unplaced (asked c.args.row.job) _ _ _ _ _ _ c.gather.ensures _ (rw c.deref.ensures.0 at c.least_base-b.ensures.first)
    (sym (rw c.deref-2.ensures.0 at c.all_inside.ensures) ∙ c.if-not-all_inside.true)

pub returns-clause-cells : goal.returns-clause-cells
unfolding job_of
returns-clause-cells c =
    row_placed (asked c.args.row.job) _ _ _ _ _ _ c.gather.ensures _ (rw c.deref.ensures.0 at c.least_base-b.ensures.first)
    (sym (rw c.deref-2.ensures.0 at c.all_inside.ensures) ∙ c.if-not-all_inside.false) _ _ c.put_base.ensures.cells c.fill.ensures.cells
