use Rattle.std.specs.Prelude.{◌-◌}
use Rattle.std.proofs.Common.{rules, sym}
use Rattle.packing.specs.Lent.{as_kind, cells}
use Rattle.packing.specs.Laws.Search.{used_at}
use Rattle.packing.proofs.bench.Bench.is_used.Goals as goal

pub returns-then-has_base : goal.returns-then-has_base
returns-then-has_base c = let a = c.args in sym (used_at (cells a.self.now) (as_kind a.kind) a.b a.s (c.loop-n.n - 1) (search rules) (search rules))
