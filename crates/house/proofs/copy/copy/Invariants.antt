use Rattle.house.specs.Laws.Copying.{Copying}
use Rattle.house.proofs.copy.copy.Given as goal

abbrev pub invariant-loop-i : goal.invariant-loop-i
invariant-loop-i g l = Copying l.from l.to l.i
