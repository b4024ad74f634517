-- What one move on a state gives and leaves, for all inputs.
use Rattle.std.specs.Prelude.{ℕ, Bool, cond, ◌&&◌, List, leb, ltb, length, Ok, Err}
use Rattle.tables.specs.declared.Refusal.TheVariants.{Size}
use Rattle.reads.specs.Reads.{Reads}
use Rattle.machine.specs.declared.Stop.TheVariants.{Moves}
use Rattle.machine.specs.declared.State.{State}
use Rattle.machine.specs.Types.{Stepped}
use Rattle.machine.specs.Arrays.{Rules, After, refused_by, move_at}

-- what a step gives, with the stack and the list that it leaves
pub record Stepping : Type 0 where
  pub stepped : Stepped
  pub stack : List ℕ
  pub list : List ℕ

-- these three together
abbrev pub stepping : Stepped → List ℕ → List ℕ → Stepping
stepping r stack list = record { stepped = r; stack = stack; list = list }

-- a move that is made
unfoldable pub made : After → Stepping
made a = stepping (Ok a.moved) a.stack a.list

-- the state stands in the stack, and has passed no more tokens than it made moves
unfoldable pub stands : State → List ℕ → Bool
stands s stack = leb s.depth (length stack) && leb s.place s.moves

-- SIZE where the state does not stand in the stack, MOVES where the limit is reached, else the move
unfoldable pub stepped_at : Reads → Rules → ℕ → List ℕ → ℕ → State → List ℕ → List ℕ → Stepping
stepped_at m q T tokens limit s stack list =
    cond (stands s stack)
    (cond (ltb s.moves limit)
    (made (move_at m q T tokens s stack list))
    (stepping (Ok (refused_by s (Err (Moves s.place)))) stack list))
    (stepping (Err Size) stack list)
