use Rattle.std.proofs.Common.{List, ℕ}
use Rattle.tables.specs.declared.Sizes.{Sizes}
use Rattle.tables.specs.Grammar.{good_rule}
use Rattle.tables.specs.Laws.Begins.{Begins}
use Rattle.tables.specs.Laws.Lowest.{Walk}
use Rattle.judgement.proofs.grammar.lowest_rule.Given as goal

-- the right side of rule i + 1 begins at `from`, and the rules before it are good
pub record Passing (z : Sizes) (left lens rights : List ℕ) (i from : ℕ) : Type 0 where
  pub begins : Begins lens i from
  pub walk : Walk (good_rule z left lens rights) z.rules i

abbrev pub invariant-loop-i : goal.invariant-loop-i
invariant-loop-i l = Passing l.grammar.sizes l.grammar.left.now l.grammar.lens.now l.grammar.rights.now l.i l.from
