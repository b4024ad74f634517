use Rattle.std.proofs.Common.{sym, ap, ◌<◌, arith}
use Rattle.soundness.specs.Check.{verdict, verdict_from, verdict_by, verdict_of}
use Rattle.soundness.specs.Outcome.{verdict_said}
use Rattle.soundness.specs.Laws.Judged.{fault_at}
use Rattle.soundness.specs.Laws.Answer.{least-none, least-at}
use Rattle.soundness.proofs.paths.Judged.verdict.Goals as goal

pub returns-in-Some : goal.returns-in-Some
unfolding verdict verdict_from verdict_by verdict_of
returns-in-Some c =
    ap verdict_said (sym (least-at (fault_at c.args.self) c.args.self.table.states c.loop-s.s c.in-Some.i c.loop-s-test.true c.loop-s.invariant (sym c.in-Some.ensures.lowest)))

pub returns : goal.returns
unfolding verdict verdict_from verdict_by verdict_of
returns c =
    ap verdict_said (sym (least-none (fault_at c.args.self) c.args.self.table.states (λ k h. c.loop-s.invariant k (let l : k < c.loop-s.s = omega (arith, c.loop-s-test.false) in l))))
