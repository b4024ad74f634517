use Rattle.machine.specs.Arrays.{out_of}
use Rattle.machine.specs.Laws.Turns.{no-turn, turn-begin, turn-ready, turn_on, turn-halt, turn_end}
use Rattle.machine.proofs.task.Task.run.Goals as goal

pub returns-then-stack-eq0 : goal.returns-then-stack-eq0
returns-then-stack-eq0 g c = no-turn _ _ _ _ _ _ _ c.if-stack-eq0.true

pub loop-init : goal.loop-init
loop-init g c = turn-begin _ _ _ _ _ _ _ c.if-stack-eq0.false

pub one_move-requires : goal.one_move-requires
one_move-requires g c = turn-ready _ _ _ _ _ _ _ c.loop.invariant c.loop-test.true c.args.self.now.bounded

pub returns-in-Break : goal.returns-in-Break
returns-in-Break g c = turn-halt _ _ _ _ _ _ _ c.loop.invariant c.loop-test.true (rw c.in-Break.is at c.one_move.ensures)

pub loop-preserved : goal.loop-preserved
loop-preserved g c = turn_on _ _ _ _ _ _ _ c.loop.invariant c.loop-test.true (rw c.in-Continue.is at c.one_move.ensures)

pub returns : goal.returns
unfolding out_of
returns g c = turn_end _ _ _ _ _ _ _ c.loop.invariant c.loop-test.false
