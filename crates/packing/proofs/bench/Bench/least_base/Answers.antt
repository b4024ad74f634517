use Rattle.std.specs.Prelude.{◌≡◌, true}
use Rattle.std.proofs.Common.{rules, arith}
use Rattle.std.proofs.lemmas.Grind.{common_steps}
use Rattle.packing.specs.Bench.{free_b}
use Rattle.packing.specs.Gathered.{every_from}
use Rattle.packing.specs.Lent.{cells}
use Rattle.packing.specs.Laws.Search.{first_is, first_none}
use Rattle.packing.proofs.bench.Bench.least_base.Goals as goal

pub returns-then-not-is_base-clause-first : goal.returns-then-not-is_base-clause-first
returns-then-not-is_base-clause-first c =
    let e : every_from (free_b (cells c.args.self.now)) c.bases.b c.args.need.now ≡ true = grind (arith, common_steps) in
    first_is _ _ _ (search rules) (omega arith) c.bases.invariant (search rules)

pub returns-clause-first : goal.returns-clause-first
returns-clause-first c = first_none _ _ (λ k h l. c.bases.invariant k h (omega arith))
