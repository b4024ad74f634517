use Rattle.std.proofs.lemmas.Result.{err_from_is_err_and}
use Rattle.std.proofs.Common.{sym, ap, ◌∙◌, arith}
use Rattle.tables.specs.Said.{Said}
use Rattle.packing.specs.Laws.Packing.{ready, sized, cells-most, refused-size, refused-judged, accepted}
use Rattle.packing.specs.Laws.Ready.{tame, tame-rules, fuel-low}
use Rattle.packing.specs.Written.{bench}
use Rattle.packing.specs.Job.{job_of}
use Rattle.packing.specs.Packed.{bound}
use Rattle.packing.proofs.pack.pack.Goals as goal

pub returns-then-not-arrays_fit : goal.returns-then-not-arrays_fit
returns-then-not-arrays_fit c =
    let a = c.args in
    refused-size a.grammar.sizes a.table.states _ _ _ _ _ _ (bench a.base.now a.check.now a.marks.now a.place.now) (sym c.arrays_fit.ensures ∙ c.if-not-arrays_fit.true)

pub returns-in_err-judge : goal.returns-in_err-judge
returns-in_err-judge c =
    let a = c.args in
    let p = err_from_is_err_and c.from_residual.result c.from_residual.ensures.1 in
    rw (p.1, p.2)
    (refused-judged a.grammar.sizes a.table.states _ _ _ _ _ _ (bench a.base.now a.check.now a.marks.now a.place.now) (sym c.arrays_fit.ensures ∙ c.if-not-arrays_fit.false) _ c.in_err-judge.ensures)

pub overflow_mul-tries-3 : goal.overflow_mul-tries-3
overflow_mul-tries-3 c =
    let f = fuel-low _ _ _ _ _ (ready c.args.grammar.sizes c.args.table.states _ _ _ _ _ _ (sym (ap (λ (q : Said). q.number) c.in_ok-judge.ensures))) in
    record { fits = omega (arith, f) }

pub overflow_add-tries-2 : goal.overflow_add-tries-2
overflow_add-tries-2 c =
    let f = fuel-low _ _ _ _ _ (ready c.args.grammar.sizes c.args.table.states _ _ _ _ _ _ (sym (ap (λ (q : Said). q.number) c.in_ok-judge.ensures))) in
    record { fits = omega (arith, f) }

pub invariant_of-job : goal.invariant_of-job
invariant_of-job c =
    let r = ready c.args.grammar.sizes c.args.table.states _ _ _ _ _ _ (sym (ap (λ (q : Said). q.number) c.in_ok-judge.ensures)) in
    record { tame = tame _ _ _ _ _ r; rules = tame-rules _ _ _ _ _ r; most = cells-most _ (bench c.args.base.now c.args.check.now c.args.marks.now c.args.place.now) (sym c.arrays_fit.ensures ∙ c.if-not-arrays_fit.false); few = fuel-low _ _ _ _ _ r }

pub pack_judged-requires-clause-sized : goal.pack_judged-requires-clause-sized
pack_judged-requires-clause-sized c = let a = c.args in sized a.table.states (bench a.base.now a.check.now a.marks.now a.place.now) (sym c.arrays_fit.ensures ∙ c.if-not-arrays_fit.false)

pub returns : goal.returns
unfolding job_of bound
returns c =
    let a = c.args in
    accepted a.grammar.sizes a.table.states _ _ _ _ _ _ (bench a.base.now a.check.now a.marks.now a.place.now) (sym c.arrays_fit.ensures ∙ c.if-not-arrays_fit.false) _ _ c.in_ok-judge.ensures c.pack_judged.ensures
