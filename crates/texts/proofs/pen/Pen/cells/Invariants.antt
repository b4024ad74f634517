use Rattle.texts.specs.Laws.Cells.{Lines}
use Rattle.texts.proofs.pen.Pen.cells.Given as goal

abbrev pub invariant-loop-i : goal.invariant-loop-i
invariant-loop-i l = Lines l.base l.check l.count l.initial.self l.self l.i
