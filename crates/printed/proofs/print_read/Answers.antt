use Rattle.std.specs.Prelude.{refl}
use Rattle.printed.specs.Laws.Printed.{board_read_lem, read-refused-some, signing-printed, reading-refused, put_same}
use Rattle.printed.proofs.print_read.Goals as goal

pub returns-in-Ok : goal.returns-in-Ok
returns-in-Ok c = put_same (signing-printed _ (board_read_lem c.small-b.ensures _ c.in-Ok.ensures) refl) c.print_signed.ensures

pub returns-in-Err : goal.returns-in-Err
returns-in-Err c =
    put_same (reading-refused _ (board_read_lem c.small-b.ensures _ c.in-Err.ensures) (read-refused-some c.in-Err.e)) (rw c.from.ensures at c.print_refusal.ensures)
