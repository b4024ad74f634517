use Rattle.soundness.specs.Laws.Rules.{Ruled}
use Rattle.soundness.proofs.paths.Row.rules.Given as goal

abbrev pub invariant-loop-a : goal.invariant-loop-a
invariant-loop-a l =
    Ruled l.self.paths.judged.grammar.sizes l.self.paths.judged.table.entries.now l.self.paths.judged.signing.rules.now l.self.state l.a l.rules
