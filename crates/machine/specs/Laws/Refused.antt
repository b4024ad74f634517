-- A refusal of a judgement is said back. Assumes nothing.
use Rattle.std.specs.Prelude.{◌≡◌, refl, List, ℕ}
use Rattle.tables.specs.declared.Refusal.{Refusal}
use Rattle.tables.specs.declared.Refusal.TheVariants.{Size, Grammar, Entry, State, Nonterminal}
use Rattle.tables.specs.Judgement.{refused}
use Rattle.machine.specs.Outcome.{Outcome, outcome, unchanged, judged_then}

pub refused-said : (e : Refusal) (next : Outcome) (stack list : List ℕ) → outcome (refused e) 0 stack list ≡ judged_then (refused e) next stack list
unfolding judged_then unchanged
refused-said Size next stack list = refl
refused-said (Grammar r) next stack list = refl
refused-said (Entry i) next stack list = refl
refused-said (State s) next stack list = refl
refused-said (Nonterminal x) next stack list = refl
