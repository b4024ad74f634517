-- What the code is given as a judged table, in the words of the check, and what is known of it. Assumes nothing.
use Rattle.std.specs.Prelude.{◌≡◌, Bool, false, List, [], ◌∷◌, reverse, ℕ, ◌≤◌, get_or, Option}
use Rattle.tables.specs.Lists.{among}
use Rattle.tables.specs.Grammar.{Grammar, grammar}
use Rattle.tables.specs.Laws.Size.{GrammarFits, SigningFits, grammar_fits_lem, signing_fits_lem}
use Rattle.tables.specs.Laws.Grammar.{GrammarOk}
use Rattle.tables.specs.Laws.Judgement.{WellFormed, ok-means}
use Rattle.reads.specs.Reads.{Reads}
use Rattle.machine.specs.Reads.{plain_reads, unsigned_reads}
use Rattle.soundness.specs.declared.paths.Judged.{Judged}
use Rattle.soundness.specs.Verdict.{Verdict}
use Rattle.soundness.specs.Lists.{those}
use Rattle.soundness.specs.Check.{Arc, arcs, reached, spells, may_precede, keeps, rules_at, state_fault, verdict}
use Rattle.soundness.specs.Laws.Reached.{Bounded}
use Rattle.soundness.specs.Laws.Proper.{well-bounded}
use Rattle.soundness.specs.Laws.Edges.{Tabled}

-- the grammar, the unsigned table and the filled one
abbrev pub grammar_of : Judged → Grammar
grammar_of j = grammar j.grammar.sizes j.grammar.left.now j.grammar.lens.now j.grammar.rights.now

abbrev pub unsigned_of : Judged → Reads
unsigned_of j = unsigned_reads j.grammar.sizes j.table.entries.now

abbrev pub filled_of : Judged → Reads
filled_of j = plain_reads j.grammar.sizes j.table.entries.now j.signing.rules.now j.signing.targets.now

-- the reached states, and the edges from them
abbrev pub all_reached : Judged → List ℕ
all_reached j = reached (arcs (grammar_of j) (unsigned_of j) j.table.states) j.table.states

abbrev pub live_arcs : Judged → List Arc
live_arcs j = those (λ e. among e.from (all_reached j)) (arcs (grammar_of j) (unsigned_of j) j.table.states)

-- every path into s ends with the right side of r, after a state that may stand there
abbrev pub ends_at : Judged → ℕ → ℕ → Bool
ends_at j s r = spells (live_arcs j) (may_precede (grammar_of j) (unsigned_of j) r) (reverse ((grammar_of j).right r)) (s ∷ [])

-- the same, or row s does not reduce by r
abbrev pub kept_at : Judged → ℕ → ℕ → Bool
kept_at j s r = keeps (grammar_of j) (unsigned_of j) (live_arcs j) s r (among r (rules_at (grammar_of j) (filled_of j) s))

-- the flags mark the rules that row s reduces by
abbrev pub MarksRules : Judged → ℕ → List Bool → Type 0
MarksRules j s rules = (q : ℕ) → q ≤ 1024 → get_or rules q false ≡ among q (rules_at (grammar_of j) (filled_of j) s)

-- the least rule that fails at s, counted from 0
abbrev pub fault_at : Judged → ℕ → Option ℕ
fault_at j s = state_fault (grammar_of j) (unsigned_of j) (filled_of j) (live_arcs j) s (among s (all_reached j))

-- the least state, then the least rule, that fails
abbrev pub verdict_of : Judged → Verdict
verdict_of j = verdict (grammar_of j) (unsigned_of j) (filled_of j) j.table.states

-- ---- what is known of it

module _ (j : Judged) where
  well : WellFormed j.grammar.sizes j.table.states j.grammar.left.now j.grammar.lens.now j.grammar.rights.now j.table.entries.now j.signing.rules.now j.signing.targets.now
  well = ok-means _ _ _ _ _ _ _ _ j.good

  pub judged-bounded : Bounded (grammar_of j) (unsigned_of j) j.table.states
  judged-bounded = well-bounded well

  pub judged-rules : GrammarOk (grammar_of j)
  judged-rules = well.rules

  pub judged-tabled : Tabled j.grammar.sizes j.table.states j.table.entries.now
  judged-tabled =
      let f : SigningFits j.grammar.sizes j.table.states j.signing.rules.now j.signing.targets.now = signing_fits_lem _ _ _ _ well.all.signing in
      record { numbers = f.numbers; count = f.count; entries = well.entries }

  pub judged-fits : GrammarFits j.grammar.sizes j.grammar.left.now j.grammar.lens.now j.grammar.rights.now
  judged-fits = grammar_fits_lem _ _ _ _ well.all.grammar
