use Rattle.std.proofs.Common.{rules}
use Rattle.packing.specs.Job.{job_of}
use Rattle.packing.specs.Laws.Store.{attached_none, attached_rule}
use Rattle.packing.specs.Lent.{asked}
use Rattle.packing.proofs.job.Job.attached.Goals as goal

pub returns-then-r-eq0 : goal.returns-then-r-eq0
unfolding job_of
returns-then-r-eq0 c = attached_none (asked c.args.self) _ (search rules) c.args.self.tame.numbers.symbols.most

pub returns-else-r-eq0 : goal.returns-else-r-eq0
unfolding job_of
returns-else-r-eq0 c = rw (← c.at-r.ensures) (attached_rule (asked c.args.self) _ c.if-r-eq0.false (rw c.at-r.ensures (c.args.self.tame.signs _)))
