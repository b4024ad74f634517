use Rattle.std.specs.Prelude.{◌≡◌, ◌+◌, ◌-◌}
use Rattle.std.proofs.Common.{arith}
use Rattle.packing.specs.Job.{job_of}
use Rattle.packing.specs.Lent.{asked}
use Rattle.packing.specs.Laws.Whole.{target_is}
use Rattle.packing.proofs.bench.Bench.target.Goals as goal

pub returns-clause-cells : goal.returns-clause-cells
unfolding job_of
returns-clause-cells c =
    let k : c.args.job.sizes.terminals + c.args.i - c.args.job.sizes.terminals ≡ c.args.i = omega arith in
    target_is (asked c.args.job) _ _ _ _ _ (rw k c.at-t.ensures) c.if-t-eq0.false _ c.house.ensures.cells
