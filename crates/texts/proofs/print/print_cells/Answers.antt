use Rattle.std.specs.Prelude.{refl}
use Rattle.std.proofs.Common.{rules, arith}
use Rattle.sheets.specs.Emit.{Emitted}
use Rattle.texts.specs.Printed.{cells_key, cells_text}
use Rattle.texts.specs.Laws.Pen.{then}
use Rattle.texts.specs.Laws.Short.{line-room, line-place}
use Rattle.texts.proofs.print.print_cells.Goals as goal

pub line-requires : goal.line-requires
line-requires c = line-room cells_key _ (omega arith) (omega arith)

pub cells-requires : goal.cells-requires
cells-requires c = line-place cells_key _ (omega arith) (omega arith) refl c.line.ensures

pub returns : goal.returns
unfolding cells_text
returns c =
    let e : Emitted c.args.buffer.now 0 (cells_text c.args.base.now c.args.check.now c.args.count) c.cells.new.self.at c.cells.new.self.buffer.now =
    (then c.line.ensures c.cells.ensures).put in
    search rules
