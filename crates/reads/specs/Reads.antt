-- A way of reading: what a machine asks of a table, and what a read says of it.
use Rattle.std.specs.Prelude.{ℕ, ◌<◌, ◌≤◌, ◌^◌, Option, Some, None}
use Rattle.reads.specs.declared.Read.{Read}
use Rattle.reads.specs.declared.Read.TheVariants.{Shift, Reduce, Accept, Blank}
use Rattle.reads.specs.Read.{way_cell}

-- what a read answers at a terminal
pub data Act : Type 0 where
  shift : ℕ → Act
  reduce : ℕ → Act
  accept : Act
  blank : Act
  malformed : Act

-- what a read answers at a nonterminal
pub data Go : Type 0 where
  goes : ℕ → Go
  nowhere : Go
  broken : Go

-- state and terminal; state and nonterminal
pub record Reads : Type 0 where
  pub act : ℕ → ℕ → Act
  pub go : ℕ → ℕ → Go

-- what a read at a terminal answers
abbrev pub act_said : Option Read → Act
act_said (Some (Shift w)) = shift (way_cell w)
act_said (Some (Reduce r)) = reduce r
act_said (Some Accept) = accept
act_said (Some Blank) = blank
act_said None = malformed

-- what a read at a nonterminal answers; a rule is no goto
abbrev pub go_said : Option Read → Go
go_said (Some (Shift w)) = goes (way_cell w)
go_said (Some (Reduce r)) = broken
go_said (Some Accept) = broken
go_said (Some Blank) = nowhere
go_said None = broken

-- what a move may count on after a read: a cell that fits a stack, a rule 1..G
abbrev pub Sound : ℕ → Option Read → Type 0
Sound G (Some (Shift w)) = way_cell w < 2 ^ 32
Sound G (Some (Reduce r)) = (0 < r) × (r ≤ G)
Sound G (Some Accept) = Unit {0}
Sound G (Some Blank) = Unit {0}
Sound G None = Unit {0}
