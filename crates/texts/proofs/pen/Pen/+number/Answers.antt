use Rattle.std.proofs.Common.{arith}
use Rattle.sheets.specs.Laws.Emit.{room-first}
use Rattle.texts.specs.Laws.Pen.{decimal-last, then, room_next}
use Rattle.texts.proofs.pen.Pen.+number.Goals as goal

pub number-requires : goal.number-requires
number-requires t c =
    (omega arith, room-first _ (rw (decimal-last c.args.n c.if-n-lt10.false c.if-tens-lt10.false) at c.requires))

pub bytes-requires-2 : goal.bytes-requires-2
bytes-requires-2 t c =
    room_next c.number.ensures (rw (decimal-last c.args.n c.if-n-lt10.false c.if-tens-lt10.false) at c.requires)

pub returns : goal.returns
returns t c =
    rw (decimal-last c.args.n c.if-n-lt10.false c.if-tens-lt10.false) (then c.number.ensures c.bytes-2.ensures)
