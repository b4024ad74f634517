-- Parts of a read that have names of their own.
use Rattle.std.specs.Prelude.{ℕ, ℤ, pos, negsuc, Option, Some, None}
use Rattle.reads.specs.declared.Read.{Read}
use Rattle.reads.specs.declared.Read.TheVariants.{Shift, Reduce, Accept, Blank}

-- the goto base that a number says, 0 where there are no written gotos
abbrev pub goto_base : ℤ → ℕ
goto_base (pos b) = b
goto_base (negsuc b) = 0

-- a state is what a goto asks for: a rule is no answer
abbrev pub state_alone : Option Read → Option Read
state_alone (Some (Shift w)) = Some (Shift w)
state_alone (Some (Reduce r)) = None
state_alone (Some Accept) = None
state_alone (Some Blank) = None
state_alone None = None
