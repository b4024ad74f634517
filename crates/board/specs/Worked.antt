-- P1 to P12 of 'The small board, worked', as a table.
use Rattle.std.specs.Prelude.{ℕ, ◌+◌, ◌-◌, ◌*◌, List, [], ◌∷◌, ◌++◌, length, replicate, set, ℤ, pos}
use Prim.Native.String.{String}
use Rattle.tables.specs.Said.{Said, OK, NOROOM, UNSOUND, TOKEN, SYNTAX, STACK, OUTPUT, MOVES}
use Rattle.packing.specs.Bench.{Bench}
use Rattle.packing.specs.Written.{bench}
use Rattle.packing.specs.Packing.{packing_result}
use Rattle.packing.specs.SmallBoard.{small_table, small_rules, small_targets, small_packed}
use Rattle.machine.specs.Outcome.{Outcome, outcome}
use Rattle.board.specs.declared.Board.{Board}
use Rattle.board.specs.Board.{board_of, small}
use Rattle.board.specs.Asked.{Room, Asked, packing, parsing, checking, Answer, packs, parses, checks}

-- its name, what is asked, and what must be answered
pub record Case : Type 0 where
  pub name : String
  pub asked : Asked
  pub answer : Answer

-- the terminals
abbrev pub a : ℕ
a = 1

abbrev pub b : ℕ
b = 2

-- ---- the boards

-- the small board with state s signed r
abbrev pub signing : ℕ → ℕ → Board
signing s r = board_of small_table (set small_rules s r) small_targets

-- its table with the entry for state 3 and b blanked
abbrev pub blanked : List ℤ
blanked = set small_table (3 * 6 + b) (pos 0)

-- ---- the answers

-- past 1 to 4 the whole stack is 0, and the list holds the reductions made, then 0
abbrev pub ended : Room → Said → ℕ → List ℕ → Outcome
ended r said moves made = outcome said moves (replicate r.stack 0) (made ++ replicate (r.list - length made) 0)

-- NOROOM leaves 0 in every element of the four arrays
abbrev pub emptied : ℕ → Bench
emptied W = bench (replicate W (pos 0)) (replicate W (pos 0)) (replicate W 0) (replicate 7 0)

-- the cells of the board's output, their marks, and the place of each state
abbrev pub worked_cells : Bench
worked_cells = bench small_packed.bases small_packed.checks small_packed.marks small_packed.places

-- ---- the table

-- a parse: name, board, tokens and room; what both machines say, the count of moves and the reductions
abbrev pub parse : String → Board → List ℕ → Room → Said → ℕ → List ℕ → Case
parse name B tokens r said moves made =
    record { name = name; asked = parsing B tokens r; answer = parses (ended r said moves made) (ended r said moves made) }

-- packing the small board: name and number of cells; what is said and left
abbrev pub pack : String → ℕ → Said → Bench → Case
pack name W said C = record { name = name; asked = packing small W; answer = packs (packing_result said C) }

-- the table check: name and board; what is said
abbrev pub check : String → Board → Said → Case
check name B said = record { name = name; asked = checking B; answer = checks said }

-- move limit, stack and list
abbrev pub room : ℕ → ℕ → ℕ → Room
room limit stack list = record { limit = limit; stack = stack; list = list }

-- more than any parse here needs
abbrev pub ample : Room
ample = room 1000 8 8

-- P1 to P12, in that order
abbrev pub cases : List Case
cases =
    parse "P1" small (b ∷ a ∷ a ∷ []) ample (OK (5 ∷ 8 ∷ [])) 8 (5 ∷ 3 ∷ 4 ∷ 2 ∷ 1 ∷ []) ∷
    parse "P2" small (a ∷ []) ample (OK (3 ∷ 4 ∷ [])) 4 (4 ∷ 3 ∷ 1 ∷ []) ∷
    parse "P3" small [] ample (SYNTAX 0) 0 [] ∷
    parse "P4" small (b ∷ []) ample (SYNTAX 1) 1 [] ∷
    parse "P5a" small (b ∷ a ∷ a ∷ []) (room 7 8 8) (MOVES 3) 7 (5 ∷ 3 ∷ 4 ∷ 2 ∷ []) ∷
    parse "P5b" small (b ∷ a ∷ a ∷ []) (room 8 8 8) (OK (5 ∷ 8 ∷ [])) 8 (5 ∷ 3 ∷ 4 ∷ 2 ∷ 1 ∷ []) ∷
    parse "P6a" small (b ∷ a ∷ a ∷ []) (room 1000 2 8) (STACK 1) 1 [] ∷
    parse "P6b" small (b ∷ a ∷ a ∷ []) (room 1000 3 8) (OK (5 ∷ 8 ∷ [])) 8 (5 ∷ 3 ∷ 4 ∷ 2 ∷ 1 ∷ []) ∷
    parse "P7" small (b ∷ a ∷ a ∷ []) (room 1000 8 4) (OUTPUT 3) 7 (5 ∷ 3 ∷ 4 ∷ 2 ∷ []) ∷
    parse "P8" small (3 ∷ []) ample (TOKEN 0) 0 [] ∷
    pack "P9a" 20 NOROOM (emptied 20) ∷
    pack "P9b" 21 (OK (21 ∷ [])) worked_cells ∷
    check "P10" (signing 4 4) (UNSOUND 4 4) ∷
    check "P11a" (signing 1 2) (OK []) ∷
    check "P11b" (signing 0 4) (UNSOUND 0 4) ∷
    parse "P12-unsigned" (board_of blanked (replicate 7 0) (replicate 3 0)) (a ∷ b ∷ a ∷ []) ample (SYNTAX 1) 1 [] ∷
    parse "P12-signed" (board_of blanked small_rules small_targets) (a ∷ b ∷ a ∷ []) ample (OK (5 ∷ 8 ∷ [])) 8 (4 ∷ 3 ∷ 5 ∷ 2 ∷ 1 ∷ []) ∷
    []
