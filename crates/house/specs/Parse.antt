-- The house notation unsigned: its judgement, its check, and what the plain machine over it says and leaves.
use Rattle.std.specs.Prelude.{ℕ, ◌-◌, List, replicate}
use Rattle.tables.specs.Said.{Said}
use Rattle.tables.specs.Grammar.{Grammar, grammar}
use Rattle.tables.specs.Judgement.{judgement}
use Rattle.machine.specs.Outcome.{Outcome, plain_parse}
use Rattle.soundness.specs.Outcome.{checked}
use Rattle.house.specs.House.{house_sizes, house_states, house_left, house_lens, house_rights, house_table}

-- no state is signed
abbrev pub no_rules : List ℕ
no_rules = replicate house_states 0

-- no nonterminal is signed
abbrev pub no_targets : List ℕ
no_targets = replicate (house_sizes.symbols - house_sizes.terminals) 0

-- the grammar of the arrays
abbrev pub house_grammar : Grammar
house_grammar = grammar house_sizes house_left house_lens house_rights

-- SIZE, GRAMMAR, ENTRY and SIGN of it
abbrev pub house_judgement : Said
house_judgement = judgement house_sizes house_states house_left house_lens house_rights house_table no_rules no_targets

-- the table check of it
abbrev pub house_checked : Said
house_checked = checked house_sizes house_states house_left house_lens house_rights house_table no_rules no_targets

-- the plain machine over it, on tokens with a move limit and what is lent as stack and list
abbrev pub house_parse : List ℕ → ℕ → List ℕ → List ℕ → Outcome
house_parse tokens limit stack list = plain_parse house_sizes house_states house_left house_lens house_rights house_table no_rules no_targets tokens limit stack list
