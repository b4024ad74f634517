use Rattle.std.proofs.Common.{arith}
use Rattle.texts.specs.Printed.{refused_key}
use Rattle.texts.specs.Laws.Short.{line-room}
use Rattle.texts.proofs.print.print_refusal.Goals as goal

pub line-requires : goal.line-requires
line-requires c = line-room refused_key _ (omega arith) (omega arith)
