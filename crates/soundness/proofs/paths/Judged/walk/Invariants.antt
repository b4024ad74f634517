use Rattle.soundness.specs.Laws.Walk.{Row}
use Rattle.soundness.proofs.paths.Judged.walk.Given as goal

abbrev pub invariant-loop-x : goal.invariant-loop-x
invariant-loop-x l = Row l.self.grammar.sizes l.self.table.states l.self.table.entries.now l.s l.x l.initial.ways l.ways
