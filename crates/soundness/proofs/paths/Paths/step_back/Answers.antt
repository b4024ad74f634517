use Rattle.std.proofs.Common.{arith}
use Rattle.soundness.specs.Laws.Back.{marked-none, marked_more}
use Rattle.soundness.specs.Laws.Judged.{judged-tabled}
use Rattle.soundness.proofs.paths.Paths.step_back.Goals as goal

pub bounds-next-s : goal.bounds-next-s
bounds-next-s c = omega (arith, c.loop-s.invariant.size, (judged-tabled c.args.self.judged).count.most)

pub loop-s-init : goal.loop-s-init
loop-s-init c = marked-none

pub loop-s-preserved : goal.loop-s-preserved
loop-s-preserved c = marked_more c.loop-s.invariant (omega (arith, (judged-tabled c.args.self.judged).count.most)) c.leads_in.ensures
