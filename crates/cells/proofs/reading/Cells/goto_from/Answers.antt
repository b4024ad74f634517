use Rattle.std.proofs.Common.{sym, ◌∙◌}
use Rattle.cells.specs.Read.{Cells, cells_of, twice}
use Rattle.cells.specs.Laws.Parts.{goto_base_zero, goto_not_found}
use Rattle.cells.proofs.reading.Cells.goto_from.Goals as goal
use Rattle.cells.proofs.reading.Cells.goto_from.Goals.{else-b-ne0-via-then-b-ne0+else-is_found, else-b-ne0-via-else-b-ne0}

pub returns-else-b-ne0 : goal.returns-else-b-ne0
returns-else-b-ne0 c x =
    let s = c.args in
    let C : Cells = cells_of s.rules twice s.self.base.now s.self.check.now in
    c.target_read.ensures s.rules x
    ∙ sym
    (elim c.else-b-ne0.branch [
      | else-b-ne0-via-then-b-ne0+else-is_found w ↦ goto_not_found C x s.a s.b (sym (w.is_found.ensures s.rules) ∙ w.if-is_found.false)
      | else-b-ne0-via-else-b-ne0 w ↦ goto_base_zero C x s.a s.b w.if-b-ne0.false
    ])
