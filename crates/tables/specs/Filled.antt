-- The filled table: the signed rule in each blank terminal entry of a signed state, the signed state in each blank entry of a signed nonterminal's column.
use Rattle.std.specs.Prelude.{ℕ, ◌-◌, cond, List, eqb, ℤ, get_or, Option, Some, None}
use Rattle.tables.specs.declared.Sizes.{Sizes}
use Rattle.tables.specs.declared.Action.{Action}
use Rattle.tables.specs.declared.Action.TheVariants as action
use Rattle.tables.specs.Entry.{action_at, goto_at}

-- what a signature answers: 0 signs nothing
unfoldable pub signed_action : ℕ → Action
signed_action r = cond (eqb r 0) action.Blank (action.Reduce r)

unfoldable pub signed_goto : ℕ → Option ℕ
signed_goto t = cond (eqb t 0) None (Some t)

-- the signature stands in for a blank, and for nothing else
abbrev pub filled_action : ℕ → Action → Action
filled_action r action.Blank = signed_action r
filled_action r (action.Shift t) = action.Shift t
filled_action r (action.Reduce q) = action.Reduce q
filled_action r action.Accept = action.Accept

abbrev pub filled_goto : ℕ → Option ℕ → Option ℕ
filled_goto t None = signed_goto t
filled_goto t (Some s) = Some s

-- the filled table, read
unfoldable pub filled_action_at : Sizes → List ℤ → List ℕ → ℕ → ℕ → Action
filled_action_at z table srule s a = filled_action (get_or srule s 0) (action_at z table s a)

unfoldable pub filled_goto_at : Sizes → List ℤ → List ℕ → ℕ → ℕ → Option ℕ
filled_goto_at z table sgoto s x = filled_goto (get_or sgoto (x - z.terminals) 0) (goto_at z table s x)
