use Rattle.std.specs.Prelude.{refl}
use Rattle.std.proofs.Common.{arith}
use Rattle.printed.specs.Printed.{signed_text}
use Rattle.printed.specs.Laws.Printed.{pack-refused-some, cells-printed, packing-refused, put_same}
use Rattle.printed.specs.Laws.Board.{count_fits}
use Rattle.printed.proofs.print_signed.Goals as goal

pub overflow_cast-count : goal.overflow_cast-count
overflow_cast-count c = record { fits = omega (arith, count_fits _ _ c.in-Ok.ensures refl) }

pub returns-in-Ok : goal.returns-in-Ok
unfolding signed_text
returns-in-Ok c = put_same (cells-printed _ c.in-Ok.ensures refl) c.print_cells.ensures

pub returns-in-Err : goal.returns-in-Err
unfolding signed_text
returns-in-Err c =
    put_same (packing-refused _ c.in-Err.ensures (pack-refused-some c.in-Err.e)) (rw c.from.ensures at c.print_refusal.ensures)
