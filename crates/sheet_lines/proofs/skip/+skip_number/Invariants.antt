use Rattle.sheet_lines.proofs.skip.+skip_number.Given as goal

abbrev pub decreases-skip_number : goal.decreases-skip_number
decreases-skip_number l = l.n
