use Rattle.texts.proofs.pen.Pen.+number.Given as goal

abbrev pub decreases-number : goal.decreases-number
decreases-number l = l.n
