use Rattle.std.proofs.Common.{◌∙◌}
use Rattle.packing.specs.Bench.{state_b}
use Rattle.packing.specs.Laws.Turns.{kept_err, bind_none, bind_is}
use Rattle.packing.proofs.bench.Bench.state.Goals as goal

pub returns-in_err-home-clause-cells : goal.returns-in_err-home-clause-cells
unfolding state_b
returns-in_err-home-clause-cells c = kept_err _ _ c.from_residual.ensures.0 ∙ (bind_none _ (rw c.in_err-home.was at c.home.ensures.cells))

pub returns-in_err-row-clause-cells : goal.returns-in_err-row-clause-cells
unfolding state_b
returns-in_err-row-clause-cells c = kept_err _ _ c.from_residual-in_err-row.ensures.0 ∙ (bind_is _ (rw c.in_ok-home.was at c.home.ensures.cells) (bind_none _ (rw c.in_err-row.was at c.row.ensures.cells)))

pub returns-clause-cells : goal.returns-clause-cells
unfolding state_b
returns-clause-cells c = bind_is _ (rw c.in_ok-home.was at c.home.ensures.cells) (bind_is _ (rw c.in_ok-row.was at c.row.ensures.cells) c.row-2.ensures.cells)
