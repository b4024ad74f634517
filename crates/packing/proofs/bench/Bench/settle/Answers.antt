use Rattle.packing.specs.Job.{job_of}
use Rattle.packing.specs.Laws.Store.{settle_is}
use Rattle.packing.specs.Lent.{asked}
use Rattle.packing.proofs.bench.Bench.settle.Goals as goal

pub returns-clause-cells : goal.returns-clause-cells
unfolding job_of
returns-clause-cells c = let a = c.args in settle_is (asked a.job) a.t a.c a.k c.attached.result _ _ _ _ _ _ _ _ _ c.requires.symbol c.put_i32.ensures c.attached.ensures c.put_i32-2.ensures c.put.ensures c.put-2.ensures c.put-3.ensures
