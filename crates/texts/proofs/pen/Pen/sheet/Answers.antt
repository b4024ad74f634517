use Rattle.sheets.specs.Laws.Wants.{sheet-parts}
use Rattle.sheets.specs.Laws.Fitting.{tail-whole}
use Rattle.sheets.specs.Laws.Emit.{room-first}
use Rattle.texts.specs.Laws.Pen.{then, room_next}
use Rattle.texts.proofs.pen.Pen.sheet.Goals as goal

pub header-requires : goal.header-requires
header-requires c = room-first _ (rw (sheet-parts _ _ _ _) at c.requires)

pub entries-requires-clause-room : goal.entries-requires-clause-room
entries-requires-clause-room c = room-first _ (room_next c.header.ensures (rw (sheet-parts _ _ _ _) at c.requires))

pub entries-requires-2-clause-room : goal.entries-requires-2-clause-room
entries-requires-2-clause-room c =
    rw (tail-whole c.args.sheet.signing.targets.now)
    (room_next c.entries.ensures (room_next c.header.ensures (rw (sheet-parts _ _ _ _) at c.requires)))

pub returns : goal.returns
returns c =
    rw (sheet-parts _ _ _ _)
    (then c.header.ensures (then c.entries.ensures (rw (tail-whole c.args.sheet.signing.targets.now) at c.entries-2.ensures)))
