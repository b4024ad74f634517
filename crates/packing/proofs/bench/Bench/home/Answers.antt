use Rattle.std.proofs.Common.{sym, ◌∙◌}
use Rattle.packing.specs.Job.{job_of}
use Rattle.packing.specs.Laws.Turns.{home_zero, home_has, home_new}
use Rattle.packing.proofs.bench.Bench.home.Goals as goal
use Rattle.packing.proofs.bench.Bench.home.Goals.{then-s-eq0-via-then-s-eq0, then-s-eq0-via-else-s-eq0+then-place_of-ne0}

pub returns-then-s-eq0-clause-cells : goal.returns-then-s-eq0-clause-cells
returns-then-s-eq0-clause-cells c =
    elim c.then-s-eq0.branch [
      | then-s-eq0-via-then-s-eq0 w ↦ home_zero _ _ _ _ _ w.if-s-eq0.true
      | then-s-eq0-via-else-s-eq0+then-place_of-ne0 w ↦ home_has _ _ _ _ _ (λ e. w.if-place_of-ne0.true (w.place_of.ensures.place ∙ e))
    ]

pub returns-clause-cells : goal.returns-clause-cells
unfolding job_of
returns-clause-cells c = home_new _ _ _ _ _ c.if-s-eq0.false (sym c.place_of.ensures.place ∙ c.if-place_of-ne0.false) _ c.least_home-x.ensures.first _ c.house.ensures.cells
