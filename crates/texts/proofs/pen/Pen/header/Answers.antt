use Rattle.sheets.specs.Sheet.{header, joined}
use Rattle.texts.specs.Laws.Pen.{nothing, then}
use Rattle.texts.proofs.pen.Pen.header.Goals as goal

pub returns : goal.returns
unfolding joined header
returns c =
    then c.line.ensures (then c.line-2.ensures (then c.line-3.ensures (then c.line-4.ensures (then c.line-5.ensures nothing))))
