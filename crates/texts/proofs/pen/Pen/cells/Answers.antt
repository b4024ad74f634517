use Rattle.texts.specs.Laws.Cells.{lines-on, lines_end}
use Rattle.texts.proofs.pen.Pen.cells.Goals as goal

pub loop-i-preserved : goal.loop-i-preserved
loop-i-preserved c =
    lines-on _ _ _ _ c.loop-i.invariant c.loop-i-test.true
    (rw (c.at_i32-first.ensures, c.at_i32-second.ensures) at c.cell.ensures)

pub returns : goal.returns
returns c = lines_end _ _ _ _ c.loop-i.invariant c.loop-i-test.false
