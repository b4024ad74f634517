use Rattle.std.proofs.Common.{◌∙◌}
use Rattle.packing.specs.Job.{job_of}
use Rattle.packing.specs.Lent.{asked}
use Rattle.packing.specs.Laws.Turns.{kept_err}
use Rattle.packing.specs.Laws.Whole.{placed_none, placed_stop, placed_is}
use Rattle.packing.proofs.bench.Bench.place.Goals as goal

pub returns-in_err-house-clause-cells : goal.returns-in_err-house-clause-cells
unfolding job_of
returns-in_err-house-clause-cells c = kept_err _ _ c.from_residual.ensures.0 ∙ (placed_none (asked c.args.job) _ _ _ c.requires (rw c.in_err-house.was at c.house.ensures.cells))

pub returns-in_err-targets-clause-cells : goal.returns-in_err-targets-clause-cells
unfolding job_of
returns-in_err-targets-clause-cells c = kept_err _ _ c.from_residual-in_err-targets.ensures.0 ∙ (placed_stop (asked c.args.job) _ _ _ c.requires _ (rw c.in_ok-house.was at c.house.ensures.cells) (rw c.in_err-targets.was at c.targets.ensures.cells))

pub returns-clause-cells : goal.returns-clause-cells
unfolding job_of
returns-clause-cells c = placed_is (asked c.args.job) _ _ _ c.requires _ (rw c.in_ok-house.was at c.house.ensures.cells) _ (rw c.in_ok-targets.was at c.targets.ensures.cells) _ c.states.ensures.cells
