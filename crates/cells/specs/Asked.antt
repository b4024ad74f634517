-- A read asked for by itself: SIZE, then BADCELL, then the answer.
use Rattle.std.specs.Prelude.{ℕ, Bool, cond, ◌&&◌, List, [], ◌∷◌, ltb, ℤ, Option, Some, None, Result, Ok, Err}
use Rattle.tables.specs.declared.Sizes.{Sizes}
use Rattle.tables.specs.Said.{Said, OK, SIZE, BADCELL}
use Rattle.tables.specs.Size.{numbers_fit}
use Rattle.reads.specs.declared.Way.{Way}
use Rattle.reads.specs.declared.Way.TheVariants.{Direct, Pointer}
use Rattle.reads.specs.declared.Read.{Read}
use Rattle.reads.specs.declared.Read.TheVariants.{Shift, Reduce, Accept, Blank}
use Rattle.cells.specs.declared.ReadRefusal.{ReadRefusal}
use Rattle.cells.specs.declared.ReadRefusal.TheVariants.{Size, BadCell}
use Rattle.cells.specs.Read.{Kind, action, goto, cells_of, twice, read_cell}
use Rattle.cells.specs.Size.{cells_fit}

-- a shift gives 0 and its cell where that was direct, 1 and its cell where it was through a pointer
abbrev pub shift_said : Way → Said
shift_said (Direct y) = OK (0 ∷ y ∷ [])
shift_said (Pointer y) = OK (1 ∷ y ∷ [])

-- what is answered: after a shift's, 2 and the rule, 3 for accept, 4 for blank
abbrev pub answered : Read → Said
answered (Shift w) = shift_said w
answered (Reduce r) = OK (2 ∷ r ∷ [])
answered Accept = OK (3 ∷ [])
answered Blank = OK (4 ∷ [])

-- the number and the values of each refusal
abbrev pub refused : ReadRefusal → Said
refused Size = SIZE
refused (BadCell x) = BADCELL x

-- the number and the values of each case
abbrev pub said_of : Result Read ReadRefusal → Said
said_of (Ok r) = answered r
said_of (Err e) = refused e

-- what a read at cell x says
abbrev pub read_says : ℕ → Option Read → Said
read_says x (Some r) = answered r
read_says x None = BADCELL x

-- T terminals have actions, the other symbols gotos
unfoldable pub kind_of : Sizes → ℕ → Kind
kind_of z a = cond (ltb a z.terminals) action goto

-- the bounds of T, M and G, the lengths, and a symbol below M
unfoldable pub read_fits : Sizes → List ℤ → List ℤ → ℕ → Bool
read_fits z base check a = numbers_fit z && (cells_fit base check && ltb a z.symbols)

-- the read of symbol a at cell x
unfoldable pub read_said : Sizes → List ℤ → List ℤ → ℕ → ℕ → Said
read_said z base check x a =
    cond (read_fits z base check a) (read_says x (read_cell (kind_of z a) (cells_of z.rules twice base check) x a)) SIZE
