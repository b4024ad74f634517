-- A way of reading: what the machine asks of a table, and the table's two answers to it.
use Rattle.std.specs.Prelude.{◌≡◌, ℕ, ◌≤◌, List, ℤ, Option, Some, None}
use Rattle.reads.specs.Reads.{Act, shift, reduce, accept, blank, Go, goes, nowhere, Reads}
use Rattle.tables.specs.declared.Sizes.{Sizes}
use Rattle.tables.specs.declared.Action.{Action}
use Rattle.tables.specs.declared.Action.TheVariants as action
use Rattle.tables.specs.Entry.{action_at, goto_at}
use Rattle.tables.specs.Filled.{filled_action_at, filled_goto_at}

-- an entry of a terminal column; never malformed
abbrev pub act_of : Action → Act
act_of action.Blank = blank
act_of (action.Shift t) = shift t
act_of (action.Reduce r) = reduce r
act_of action.Accept = accept

-- an entry of a nonterminal column; never malformed
abbrev pub go_of : Option ℕ → Go
go_of None = nowhere
go_of (Some t) = goes t

-- the filled table reduces by rules of the grammar alone
abbrev pub Ruled : Sizes → List ℤ → List ℕ → Type 0
Ruled z table srule = (s a r : ℕ) → filled_action_at z table srule s a ≡ action.Reduce r → r ≤ z.rules

-- the plain machine's reads: the filled table
unfoldable pub plain_reads : Sizes → List ℤ → List ℕ → List ℕ → Reads
plain_reads z table srule sgoto =
    record { act = λ s a. act_of (filled_action_at z table srule s a); go = λ s x. go_of (filled_goto_at z table sgoto s x) }

-- the unsigned table
unfoldable pub unsigned_reads : Sizes → List ℤ → Reads
unsigned_reads z table = record { act = λ s a. act_of (action_at z table s a); go = λ s x. go_of (goto_at z table s x) }
