use Rattle.std.proofs.Common.{arith}
use Rattle.texts.specs.Laws.Short.{digits-brief, byte-brief, brief-then, brief-more}
use Rattle.texts.proofs.pen.Pen.signed.Goals as goal

pub returns-in-Plus : goal.returns-in-Plus
returns-in-Plus c =
    rw c.in-Plus.is
    (brief-more (omega arith) (digits-brief c.in-Plus.n (omega arith) c.number.ensures))

pub returns-in-Minus : goal.returns-in-Minus
returns-in-Minus c =
    rw c.in-Minus.is
    (brief-then (byte-brief c.byte.ensures) (digits-brief c.in-Minus.n (omega arith) c.number-in-Minus.ensures))
