use Rattle.std.specs.Prelude.{◌≡◌}
use Rattle.sheets.specs.Laws.Emit.{Left, all_lines, lines_after}
use Rattle.texts.proofs.pen.Pen.entries.Given as goal

abbrev pub invariant-loop-i : goal.invariant-loop-i
invariant-loop-i l = record {
  left : Left l.initial.self.buffer.now l.initial.self.at (all_lines l.key l.first l.values) l.self.buffer.now l.self.at (lines_after l.key l.first l.values l.i);
  lent : l.self.buffer.ghost_name ≡ l.initial.self.buffer.ghost_name;
}
