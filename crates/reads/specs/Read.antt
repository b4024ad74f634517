-- The answer of a read.
use Rattle.std.specs.Prelude.{ℕ}
use Rattle.reads.specs.declared.Way.{Way}
use Rattle.reads.specs.declared.Way.TheVariants.{Direct, Pointer}

-- the cell of a shift's state, whichever way it was found
abbrev pub way_cell : Way → ℕ
way_cell (Direct y) = y
way_cell (Pointer y) = y
