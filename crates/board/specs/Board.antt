-- The small board. Its sizes, table and signing are those that packing's SmallBoard has; its grammar is here.
use Rattle.std.specs.Prelude.{ℕ, List, [], ◌∷◌, ℤ}
use Rattle.packing.specs.SmallBoard.{small_sizes, small_table, small_rules, small_targets}
use Rattle.board.specs.declared.Board.{Board}

-- 1 S'→S, 2 S→S E, 3 S→E, 4 E→a, 5 E→b a, with this table and this signing; a 1, b 2, S' 3, S 4, E 5
abbrev pub board_of : List ℤ → List ℕ → List ℕ → Board
board_of table srule sgoto =
    record {
      sizes = small_sizes;
      states = 7;
      left = 3 ∷ 4 ∷ 4 ∷ 5 ∷ 5 ∷ [];
      lens = 1 ∷ 2 ∷ 1 ∷ 1 ∷ 2 ∷ [];
      rights = 4 ∷ 4 ∷ 5 ∷ 5 ∷ 1 ∷ 2 ∷ 1 ∷ [];
      table = table;
      srule = srule;
      sgoto = sgoto;
    }

-- its own table, signed as on its sheet
abbrev pub small : Board
small = board_of small_table small_rules small_targets
