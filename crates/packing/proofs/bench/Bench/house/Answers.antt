use Rattle.std.proofs.Common.{arith}
use Rattle.packing.specs.Laws.Store.{house_yes, house_no}
use Rattle.packing.proofs.bench.Bench.house.Goals as goal
use Rattle.packing.proofs.bench.Bench.house.Goals.{else-c-job-via-then-c-job+else-c-job-2, else-c-job-via-else-c-job}

pub returns-then-c-job-2-clause-cells : goal.returns-then-c-job-2-clause-cells
returns-then-c-job-2-clause-cells c = house_yes _ _ _ _ _ _ _ c.settle.ensures.cells c.if-c-job-2.true

pub returns-else-c-job-clause-cells : goal.returns-else-c-job-clause-cells
returns-else-c-job-clause-cells c =
    house_no _ _ _ _ _ _ (elim c.else-c-job.branch [ else-c-job-via-then-c-job+else-c-job-2 w ↦ w.if-c-job-2.false | else-c-job-via-else-c-job w ↦ omega (arith, w.if-c-job.false) ])
