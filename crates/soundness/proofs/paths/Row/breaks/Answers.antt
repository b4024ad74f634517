use Rattle.std.proofs.Common.{sym, ◌∙◌}
use Rattle.soundness.specs.Laws.Faults.{sides-small, row-breaks, row-keeps}
use Rattle.soundness.proofs.paths.Row.breaks.Goals as goal

pub returns-then-at : goal.returns-then-at
returns-then-at c =
    let j = c.args.self.paths.judged in
    c.fails.ensures ∙ row-breaks j _ _ (sym (c.requires.marked c.args.rule.number (sides-small j c.requires.sides)) ∙ sym c.at.ensures ∙ c.if-at.true)

pub returns-else-at : goal.returns-else-at
returns-else-at c =
    let j = c.args.self.paths.judged in
    c.if-at.false ∙ row-keeps j _ _ (sym (c.requires.marked c.args.rule.number (sides-small j c.requires.sides)) ∙ sym c.at.ensures ∙ c.if-at.false)
