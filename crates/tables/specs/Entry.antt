-- The table's entries, and ENTRY: the lowest bad index.
use Rattle.std.specs.Prelude.{ℕ, ◌+◌, ◌*◌, ◌%◌, Bool, false, not, cond, ◌&&◌, ◌||◌, List, leb, ltb, eqb, ℤ, pos, length, get_or, Option, Some, None}
use Rattle.number.specs.Number.{sign_of}
use Rattle.number.specs.declared.Signed.{Signed}
use Rattle.number.specs.declared.Signed.TheVariants.{Plus, Minus}
use Rattle.tables.specs.declared.Sizes.{Sizes}
use Rattle.tables.specs.declared.Action.{Action}
use Rattle.tables.specs.declared.Action.TheVariants as action
use Rattle.tables.specs.Lists.{lowest}

-- the entry of state s and symbol a: L rows of M entries, and 0 outside
unfoldable pub entry_at : Sizes → List ℤ → ℕ → ℕ → ℤ
entry_at z table s a = get_or table (s * z.symbols + a) (pos 0)

-- a terminal column: 0 is blank, t in 1..L-1 is shift to t but not in column 0, -1 is accept in column 0 alone, -r with r in 2..G is reduce by r
abbrev pub good_action : Sizes → ℕ → ℕ → Signed → Bool
good_action z states a (Plus t) = eqb t 0 || (not (eqb a 0) && ltb t states)
good_action z states a (Minus r) = cond (eqb r 1) (eqb a 0) (leb r z.rules)

-- a nonterminal column: 0 is blank, else a state 1..L-1; column T is blank
abbrev pub good_goto : Sizes → ℕ → ℕ → Signed → Bool
good_goto z states a (Plus t) = eqb t 0 || (not (eqb a z.terminals) && ltb t states)
good_goto z states a (Minus r) = false

unfoldable pub good_signed : Sizes → ℕ → ℕ → Signed → Bool
good_signed z states a e = cond (ltb a z.terminals) (good_action z states a e) (good_goto z states a e)

-- e may stand in column a
unfoldable pub good_entry : Sizes → ℕ → ℕ → ℤ → Bool
good_entry z states a e = good_signed z states a (sign_of e)

-- the entry at index i, row by row, may stand in its column
abbrev pub good_at : Sizes → ℕ → List ℤ → ℕ → Bool
good_at z states table i = good_entry z states (i % z.symbols) (get_or table i (pos 0))

-- the lowest bad index, row by row
unfoldable pub lowest_entry : Sizes → ℕ → List ℤ → Option ℕ
lowest_entry z states table = lowest (good_at z states table) (length table)

-- what an entry of a terminal column says
abbrev pub action_of : Signed → Action
action_of (Plus t) = cond (eqb t 0) action.Blank (action.Shift t)
action_of (Minus r) = cond (eqb r 1) action.Accept (action.Reduce r)

-- what an entry of a nonterminal column says
abbrev pub goto_of : Signed → Option ℕ
goto_of (Plus t) = cond (eqb t 0) None (Some t)
goto_of (Minus r) = None

-- the unsigned table, read
unfoldable pub action_at : Sizes → List ℤ → ℕ → ℕ → Action
action_at z table s a = action_of (sign_of (entry_at z table s a))

unfoldable pub goto_at : Sizes → List ℤ → ℕ → ℕ → Option ℕ
goto_at z table s x = goto_of (sign_of (entry_at z table s x))
