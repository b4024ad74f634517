use Rattle.std.specs.Prelude.{drop}
use Rattle.sheets.specs.Laws.Emit.{Left}
use Rattle.texts.proofs.pen.Pen.bytes.Given as goal

abbrev pub invariant-loop-b : goal.invariant-loop-b
invariant-loop-b l = Left l.initial.buffer l.initial.at l.bytes l.buffer l.at (drop l.b-index l.bytes)
