-- What the laws of packing ask of a job. Assumes nothing.
use Rattle.std.specs.Prelude.{◌≡◌, ℕ, ◌≤◌, ◌<◌}
use Rattle.cells.specs.Read.{Kind, action, goto}
use Rattle.packing.specs.Job.{Act, blank, shift, rule, Job}
use Rattle.packing.specs.Rows.{row}
use Rattle.packing.specs.Valid.{Edition}

-- what may stand in a terminal column: a shift to 1..L-1 but not in column 0, a rule 1..G, and rule 1 in column 0 alone
abbrev pub OkTerm : Job → ℕ → Act → Type 0
OkTerm J a blank = Unit {0}
OkTerm J a (shift t) = (1 ≤ t) × (t < J.states) × (1 ≤ a)
OkTerm J a (rule r) = (1 ≤ r) × (r ≤ J.rules) × (r ≡ 1 → a ≡ 0)

-- what may stand in a nonterminal column: a state 1..L-1
abbrev pub OkGoto : Job → Act → Type 0
OkGoto J blank = Unit {0}
OkGoto J (shift t) = (1 ≤ t) × (t < J.states)
OkGoto J (rule r) = ⊥

-- the columns of a row of this kind
abbrev pub InCols : Job → Kind → ℕ → Type 0
InCols J action a = a < J.terms
InCols J goto a = (J.terms ≤ a) × (a < J.syms)

-- every written entry that is a shift goes to a state 1..L-1
abbrev pub RowOk : Job → Kind → ℕ → Type 0
RowOk J κ s = (a t : ℕ) → row J κ s a ≡ shift t → (1 ≤ t) × (t < J.states)

pub record WF (J : Job) : Type 0 where
  pub some-terms : 1 ≤ J.terms
  pub some-syms : J.terms < J.syms
  pub some-states : 1 ≤ J.states
  pub term : (s a : ℕ) → s < J.states → a < J.terms → OkTerm J a (J.entry s a)
  pub nonterm : (s A : ℕ) → s < J.states → J.terms ≤ A → A < J.syms → OkGoto J (J.entry s A)
  pub rows : (s : ℕ) → s < J.states → (κ : Kind) → RowOk J κ s
  pub signed : (s : ℕ) → s < J.states → 1 ≤ J.ssig s → (2 ≤ J.ssig s) × (J.ssig s ≤ J.rules)
  pub target : (A : ℕ) → J.gsig A < J.states
  pub start : J.gsig J.terms ≡ 0
  pub distinct : (A B : ℕ) → J.terms ≤ A → A < B → B < J.syms → 1 ≤ J.gsig B → J.gsig A ≡ J.gsig B → ⊥
  pub edition : Edition J.terms J.off
