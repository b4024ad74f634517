use Rattle.std.specs.Prelude.{◌-◌}
use Rattle.std.proofs.Common.{rules, sym}
use Rattle.packing.specs.Lent.{row_of}
use Rattle.packing.specs.Laws.Compared.{seen_at}
use Rattle.packing.proofs.row.Row.seen_below.Goals as goal

pub returns-then-eq : goal.returns-then-eq
returns-then-eq c = sym (seen_at (row_of c.args.self) c.args.t _ (c.loop-a.a - 1) (search rules) (search rules))
