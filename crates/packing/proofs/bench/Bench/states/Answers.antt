use Rattle.std.proofs.Common.{◌∙◌}
use Rattle.packing.specs.Job.{job_of}
use Rattle.packing.specs.Lent.{asked}
use Rattle.packing.specs.Laws.Turns.{kept_err}
use Rattle.packing.specs.Laws.Whole.{states_stop}
use Rattle.packing.proofs.bench.Bench.states.Goals as goal

pub returns-in_err-state-clause-cells : goal.returns-in_err-state-clause-cells
unfolding job_of
returns-in_err-state-clause-cells c = kept_err _ _ c.from_residual.ensures.0 ∙ (states_stop (asked c.args.job) _ _ _ _ _ c.loop-s.invariant.cells _ c.loop-s-test.true (rw c.in_err-state.was at c.state.ensures.cells))
