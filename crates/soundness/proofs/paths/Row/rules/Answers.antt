use Rattle.soundness.specs.Laws.Rules.{ruled-none, ruled-more, ruled-all, ruled-among}
use Rattle.soundness.proofs.paths.Row.rules.Goals as goal

pub loop-a-init : goal.loop-a-init
loop-a-init c = ruled-none

pub loop-a-preserved : goal.loop-a-preserved
loop-a-preserved c =
    rw (c.mark.ensures, c.rule_of.ensures, c.filled_action_at-entry.ensures)
    (ruled-more c.loop-a.invariant c.loop-a-test.true)

pub returns : goal.returns
returns c =
    let j = c.args.self.paths.judged in
    ruled-among (ruled-all c.loop-a.invariant c.loop-a-test.false) j.grammar.left.now j.grammar.lens.now j.grammar.rights.now j.signing.targets.now
