-- What the machine's functions answer with, in std's words.
use Rattle.std.specs.Prelude.{ℕ, Result}
use Rattle.std.proofs.Common.{ControlFlow}
use Rattle.tables.specs.declared.Refusal.{Refusal}
use Rattle.machine.specs.declared.Stop.{Stop}
use Rattle.machine.specs.declared.State.{State}
use Rattle.machine.specs.declared.Ran.{Ran}
use Rattle.machine.specs.declared.Ended.{Ended}

-- how a parse ends, past the numbers 1 to 4: accepted with so many reductions, or stopped
abbrev pub Answer : Type 0
Answer = Result ℕ Stop

-- what a move makes: where the parse stands after it, or its end
abbrev pub Moved : Type 0
Moved = ControlFlow Ran State

-- what one move on a state gives: what the move made, or SIZE
abbrev pub Stepped : Type 0
Stepped = Result Moved Refusal

-- what a parse says: its end, or a refusal under the numbers 1 to 4
abbrev pub Parsed : Type 0
Parsed = Result Ended Refusal
