use Rattle.sheets.specs.Laws.Entry.{Digits}
use Rattle.sheet_lines.proofs.entry.digits_at.Given as goal

abbrev pub invariant-loop-c : goal.invariant-loop-c
invariant-loop-c l = Digits l.most l.at l.c-items l.n l.next l.c-index
