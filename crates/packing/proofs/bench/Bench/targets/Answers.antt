use Rattle.std.proofs.Common.{◌∙◌}
use Rattle.packing.specs.Job.{job_of}
use Rattle.packing.specs.Lent.{asked}
use Rattle.packing.specs.Laws.Turns.{kept_err}
use Rattle.packing.specs.Laws.Whole.{targets_stop}
use Rattle.packing.proofs.bench.Bench.targets.Goals as goal

pub returns-in_err-target-clause-cells : goal.returns-in_err-target-clause-cells
unfolding job_of
returns-in_err-target-clause-cells c = kept_err _ _ c.from_residual.ensures.0 ∙ (targets_stop (asked c.args.job) _ _ _ _ c.loop-i.invariant.cells _ c.loop-i-test.true (rw c.in_err-target.was at c.target.ensures.cells))
