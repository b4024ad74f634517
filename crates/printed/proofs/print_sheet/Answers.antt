use Rattle.printed.specs.Laws.Printed.{short-printed, long-printed, put_same}
use Rattle.printed.proofs.print_sheet.Goals as goal

pub returns-then-text-le65536 : goal.returns-then-text-le65536
returns-then-text-le65536 c = put_same (short-printed _ c.if-text-le65536.true) c.print_read.ensures

pub returns-else-text-le65536 : goal.returns-else-text-le65536
returns-else-text-le65536 c = put_same (long-printed _ c.if-text-le65536.false) c.print_refusal.ensures
