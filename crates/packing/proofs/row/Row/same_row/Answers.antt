use Rattle.std.proofs.Common.{rules, sym}
use Rattle.packing.specs.Lent.{row_of}
use Rattle.packing.specs.Laws.Compared.{same_upto_no}
use Rattle.packing.proofs.row.Row.same_row.Goals as goal

pub returns-then-ne : goal.returns-then-ne
returns-then-ne c = sym (same_upto_no (row_of c.args.self) (row_of c.args.other) c.args.self.job.sizes.terminals c.args.column (search rules) (search rules))
