use Rattle.std.specs.Prelude.{refl}
use Rattle.std.proofs.Common.{◌∙◌, rules, arith, below_more}
use Rattle.packing.specs.Job.{job_of}
use Rattle.packing.specs.Lent.{asked, row_of}
use Rattle.packing.specs.Laws.Compared.{rep_is, own_row, row_compared}
use Rattle.packing.proofs.row.Row.first_same.Goals as goal

pub returns-then-same_row : goal.returns-then-same_row
unfolding job_of
returns-then-same_row c =
    let o = c.of.ensures in
    rep_is (asked c.args.self.job) _ _ (omega arith) (row_compared (asked c.args.self.job) c.loop-j.j c.args.self.state (row_of c.of.result) (row_of c.args.self) c.of.result.job.sizes.terminals c.same_row.result (rw (o.job, o.row.0, o.row.1) refl) (rw c.requires refl) (rw o.job refl) c.same_row.ensures ∙ c.if-same_row.true) c.loop-j.invariant

pub loop-j-preserved : goal.loop-j-preserved
unfolding job_of
loop-j-preserved c =
    let o = c.of.ensures in
    below_more _ _ c.loop-j.invariant (row_compared (asked c.args.self.job) c.loop-j.j c.args.self.state (row_of c.of.result) (row_of c.args.self) c.of.result.job.sizes.terminals c.same_row.result (rw (o.job, o.row.0, o.row.1) refl) (rw c.requires refl) (rw o.job refl) c.same_row.ensures ∙ c.if-same_row.false)

pub returns : goal.returns
returns c = rep_is (asked c.args.self.job) _ _ (omega arith) (own_row _ _) (search rules)
