use Rattle.std.proofs.Common.{rules, arith}
use Rattle.packing.specs.Laws.Search.{first_is, first_none}
use Rattle.packing.proofs.bench.Bench.least_home.Goals as goal

pub returns-then-is_free-2-clause-first : goal.returns-then-is_free-2-clause-first
returns-then-is_free-2-clause-first c = first_is _ _ _ (search rules) (omega arith) c.loop-x.invariant (search rules)

pub returns-clause-first : goal.returns-clause-first
returns-clause-first c = first_none _ _ (λ k h l. c.loop-x.invariant k h (omega arith))
