use Rattle.soundness.specs.Laws.Walk.{unset, Walking}
use Rattle.soundness.proofs.paths.Judged.find_ways.Given as goal

abbrev pub invariant-loop-s : goal.invariant-loop-s
invariant-loop-s l = Walking l.self.grammar.sizes l.self.table.states l.self.table.entries.now l.ways l.walked

abbrev pub decreases-loop-s : goal.decreases-loop-s
decreases-loop-s l = unset l.walked
