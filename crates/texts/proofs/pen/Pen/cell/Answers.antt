use Rattle.std.proofs.Common.{arith}
use Rattle.sheets.specs.Sheet.{line}
use Rattle.texts.specs.Printed.{cell_line}
use Rattle.texts.specs.Laws.Short.{digits-brief, byte-brief, brief-place, brief-then}
use Rattle.texts.proofs.pen.Pen.cell.Goals as goal

pub signed-requires : goal.signed-requires
signed-requires c =
    omega (
      arith,
      brief-place (digits-brief _ (omega arith) c.number.ensures),
      brief-place (byte-brief c.byte.ensures),
    )

pub signed-requires-2 : goal.signed-requires-2
signed-requires-2 c =
    omega (
      arith,
      brief-place (digits-brief _ (omega arith) c.number.ensures),
      brief-place (byte-brief c.byte.ensures),
      brief-place c.signed.ensures,
      brief-place (byte-brief c.byte-2.ensures),
    )

pub returns : goal.returns
unfolding line cell_line
returns c =
    brief-then (digits-brief _ (omega arith) c.number.ensures)
    (brief-then (byte-brief c.byte.ensures)
    (brief-then (brief-then c.signed.ensures (brief-then (byte-brief c.byte-2.ensures) c.signed-2.ensures))
    (byte-brief c.byte-3.ensures)))
