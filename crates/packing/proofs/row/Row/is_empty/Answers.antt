use Rattle.std.proofs.Common.{rules, sym}
use Rattle.packing.specs.Job.{job_of}
use Rattle.packing.specs.Lent.{asked}
use Rattle.packing.specs.Laws.Compared.{empty_upto_no, goto_blank}
use Rattle.packing.proofs.row.Row.is_empty.Goals as goal

pub loop-a-init : goal.loop-a-init
unfolding job_of
loop-a-init c k h = rw c.requires (goto_blank (asked c.args.self.job) c.args.self.state k h)

pub returns-then-ne : goal.returns-then-ne
returns-then-ne c = sym (empty_upto_no _ _ c.loop-a.a c.loop-a-test.true (search rules))
