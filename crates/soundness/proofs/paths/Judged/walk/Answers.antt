use Rattle.std.proofs.Common.{arith}
use Rattle.soundness.specs.Laws.Walk.{row-begin, row_more, row-end}
use Rattle.soundness.specs.Laws.Judged.{judged-tabled}
use Rattle.soundness.proofs.paths.Judged.walk.Goals as goal

pub loop-x-init : goal.loop-x-init
loop-x-init c = row-begin (judged-tabled c.args.self) c.requires.below c.requires.kept

pub overflow_cast-x : goal.overflow_cast-x
overflow_cast-x c = record { fits = omega (arith, (judged-tabled c.args.self).numbers.symbols.most) }

pub loop-x-preserved : goal.loop-x-preserved
loop-x-preserved c =
    let p = c.requires in
    rw (c.join.ensures, c.edge.ensures) (row_more (judged-tabled c.args.self) p.below p.reached c.loop-x-test.true c.loop-x.invariant)

pub returns : goal.returns
returns c = row-end (judged-tabled c.args.self) c.requires.below c.loop-x-test.false c.loop-x.invariant
