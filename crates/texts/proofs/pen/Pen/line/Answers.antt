use Rattle.sheets.specs.Sheet.{line}
use Rattle.texts.specs.Laws.Pen.{then}
use Rattle.texts.proofs.pen.Pen.line.Goals as goal

pub returns : goal.returns
unfolding line
returns c =
    then c.bytes.ensures (then c.byte.ensures (then c.number.ensures c.byte-2.ensures))
