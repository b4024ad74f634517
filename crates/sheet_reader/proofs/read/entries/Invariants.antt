use Rattle.sheets.specs.Laws.Walk.{Entering}
use Rattle.sheet_reader.proofs.read.entries.Given as goal

abbrev pub invariant-loop-i : goal.invariant-loop-i
invariant-loop-i l = Entering l.text l.key l.first l.line l.at l.initial.values l.values l.place l.i
