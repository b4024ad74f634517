use Rattle.machine.specs.Arrays.{rules_of}
use Rattle.machine.specs.Laws.Turns.{Turning}
use Rattle.machine.proofs.task.Task.run.Given as goal

abbrev pub invariant-loop : goal.invariant-loop
invariant-loop g l =
    let grammar = l.self.grammar in
    Turning (g.R.Reading.reads l.self.reads) (rules_of grammar.left.now grammar.lens.now) grammar.sizes.terminals l.self.tokens.now l.self.limit l.fn.stack l.fn.list
    l.counter l.s l.stack l.list
