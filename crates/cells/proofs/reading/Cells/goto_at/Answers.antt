use Rattle.std.specs.Prelude.{suc, length, get_or, pos}
use Rattle.std.proofs.Common.{add-one, arith, sym, ◌∙◌, lt-ltb}
use Rattle.cells.specs.Read.{Cells, cells_of, twice, read_cell}
use Rattle.cells.specs.Laws.Parts.{goto_from_base}
use Rattle.cells.proofs.reading.Cells.goto_at.Goals as goal

pub returns-then-not_negative : goal.returns-then-not_negative
unfolding read_cell cells_of
returns-then-not_negative c =
    let s = c.args in
    let C : Cells = cells_of s.rules twice s.self.base.now s.self.check.now in
    rw (
      lt-ltb (suc s.x) (length s.self.base.now) (omega arith),
      sym c.not_negative.ensures ∙ c.if-not_negative.true,
    )
    (c.goto_from.ensures s.x
    ∙ goto_from_base C s.x s.a c.goto_base.result (get_or s.self.base.now (suc s.x) (pos 0))
    (rw add-one at c.goto_base.ensures))
