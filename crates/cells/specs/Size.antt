-- SIZE: the number of cells, and the length of Check.
use Rattle.std.specs.Prelude.{Bool, ◌&&◌, List, leb, eqb, ℤ, length}

-- W is the length of Base, 2..65,536; Check has W elements
unfoldable pub cells_fit : List ℤ → List ℤ → Bool
cells_fit base check = leb 2 (length base) && (leb (length base) 65536 && eqb (length check) (length base))
