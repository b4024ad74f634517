use Rattle.sheets.specs.Sheet.{line, entry_key}
use Rattle.texts.specs.Laws.Pen.{then}
use Rattle.texts.proofs.pen.Pen.entry.Goals as goal

pub returns : goal.returns
unfolding line entry_key
returns c =
    then (then c.bytes.ensures c.number.ensures) (then c.byte.ensures (then c.value.ensures c.byte-2.ensures))
