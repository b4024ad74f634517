use Rattle.soundness.specs.Laws.Back.{led_in, Marked}
use Rattle.soundness.proofs.paths.Paths.step_back.Given as goal

abbrev pub invariant-loop-s : goal.invariant-loop-s
invariant-loop-s l = Marked (led_in l.self l.set l.y) l.s l.next
