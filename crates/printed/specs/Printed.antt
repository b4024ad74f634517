-- What packsheet prints for a text: the small board, packed into 64 cells with the signing that the text is read as; or a refusal.
use Rattle.std.specs.Prelude.{ℕ, cond, List, leb, eqb, pos, length, get_or, replicate}
use Rattle.sheets.specs.Outcome.{ReadOutcome, sheet_read}
use Rattle.packing.specs.Bench.{Bench}
use Rattle.packing.specs.Written.{bench}
use Rattle.packing.specs.Packing.{Result, packed}
use Rattle.texts.specs.Printed.{cells_text, refusal_text}
use Rattle.board.specs.Board.{small}

-- packing the small board with this signing into these arrays
unfoldable pub board_packed : List ℕ → List ℕ → Bench → Result
board_packed srule sgoto A =
    packed small.sizes small.states small.left small.lens small.rights small.table srule sgoto A

-- 64 cells, and the places of seven states
abbrev pub lent : Bench
lent = bench (replicate 64 (pos 0)) (replicate 64 (pos 0)) (replicate 64 0) (replicate 7 0)

-- the cells up to the count, or the number of a refusal
unfoldable pub packed_text : Result → List ℕ
packed_text r =
    cond (eqb r.said.number 0)
    (cells_text r.arrays.bases r.arrays.checks (get_or r.said.values 0 0))
    (refusal_text r.said.number)

-- what is printed for a signing
unfoldable pub signed_text : List ℕ → List ℕ → List ℕ
signed_text srule sgoto = packed_text (board_packed srule sgoto lent)

-- the signing that was read, or the number of a refusal
unfoldable pub read_text : ReadOutcome → List ℕ
read_text o = cond (eqb o.said.number 0) (signed_text o.srule o.sgoto) (refusal_text o.said.number)

-- reading a sheet of the small board
unfoldable pub board_read : List ℕ → ReadOutcome
board_read text = sheet_read small.sizes small.states text (replicate 7 0) (replicate 3 0)

-- a text above 65,536 bytes is refused as TEXT, before all else
unfoldable pub printed : List ℕ → List ℕ
printed text = cond (leb (length text) 65536) (read_text (board_read text)) (refusal_text 16)
