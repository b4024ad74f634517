-- The table check worked out: the edges as a list, the states that they reach, and for each state and rule the states before its right side, column by column.
use Rattle.std.specs.Prelude.{Bool, true, false, not, cond, ◌&&◌, List, [], ◌∷◌, map, reverse, ℕ, zero, suc, ltb, eqb, Option, Some, None}
use Rattle.tables.specs.Lists.{all, among, lowest}
use Rattle.tables.specs.Grammar.{Grammar}
use Rattle.reads.specs.Reads.{Act, shift, reduce, accept, blank, malformed, Go, goes, nowhere, broken, Reads}
use Rattle.soundness.specs.Verdict.{Verdict, sound, unsound}
use Rattle.soundness.specs.Lists.{those, collect}

-- ---- the edges

-- an edge, from a state on a symbol to a state
pub record Arc : Type 0 where
  pub from : ℕ
  pub symbol : ℕ
  pub to : ℕ

-- these three together
abbrev pub arc : ℕ → ℕ → ℕ → Arc
arc p x t = record { from = p; symbol = x; to = t }

-- where a shift leads
abbrev pub shifts_to : Act → List ℕ
shifts_to (shift t) = t ∷ []
shifts_to (reduce r) = []
shifts_to accept = []
shifts_to blank = []
shifts_to malformed = []

-- where a goto leads
abbrev pub goes_to : Go → List ℕ
goes_to (goes t) = t ∷ []
goes_to nowhere = []
goes_to broken = []

-- where p leads on x, a terminal or a nonterminal
unfoldable pub leads_to : Reads → ℕ → ℕ → Bool → List ℕ
leads_to u p x true = shifts_to (u.act p x)
leads_to u p x false = goes_to (u.go p x)

-- the edges from p
unfoldable pub arcs_from : Grammar → Reads → ℕ → List Arc
arcs_from g u p = collect (λ x. map (arc p x) (leads_to u p x (ltb x g.T))) g.M

-- the edges of a table of this many states
unfoldable pub arcs : Grammar → Reads → ℕ → List Arc
arcs g u states = collect (arcs_from g u) states

-- ---- the states that they reach

-- rs and a state of us that one of the edges leads to, and so on; rs where there is no edge
unfoldable pub grown : (List ℕ → List ℕ → List ℕ) → List ℕ → List ℕ → List Arc → List ℕ
grown next rs us [] = rs
grown next rs us (e ∷ es) = next (e.to ∷ rs) (those (λ s. not (eqb s e.to)) us)

-- rs grown at most n times by states of us, along the edges from rs into us
unfoldable pub grow : List Arc → ℕ → List ℕ → List ℕ → List ℕ
grow es zero rs us = rs
grow es (suc n) rs us = grown (grow es n) rs us (those (λ e. among e.from rs && among e.to us) es)

-- all states that can be reached from state 0
unfoldable pub reached : List Arc → ℕ → List ℕ
reached es states = grow es states (0 ∷ []) (collect (λ s. s ∷ []) states)

-- ---- the conditions, for one state and rule

-- the edges into the states S
unfoldable pub into : List ℕ → List Arc → List Arc
into S es = those (λ e. among e.to S) es

-- goes on with the states that the edges come from, if all is well so far
unfoldable pub before : (List ℕ → Bool) → List Arc → Bool → Bool
before further es true = further (map (λ e. e.from) es)
before further es false = false

-- no path into S is too short, no edge has a symbol other than y, and so on
unfoldable pub spelling : (List ℕ → Bool) → ℕ → List ℕ → List Arc → Bool
spelling further y S es = before further es (not (among 0 S) && all (λ x. eqb x y) (map (λ e. e.symbol) es))

-- the last symbols of every path into the states S are ys, the last first, and the state before them passes the test
unfoldable pub spells : List Arc → (ℕ → Bool) → List ℕ → List ℕ → Bool
spells es test [] S = all test S
spells es test (y ∷ ys) S = spelling (spells es test ys) y S (into S es)

-- a goto that is not blank
abbrev pub is_there : Go → Bool
is_there (goes t) = true
is_there nowhere = false
is_there broken = true

-- the state before the right side of r: 0 for rule 1; for r above 1 one whose goto on r's left side is not blank
unfoldable pub may_precede : Grammar → Reads → ℕ → ℕ → Bool
may_precede g u r p = cond (eqb r 1) (eqb p 0) (is_there (u.go p (g.left r)))

-- rule r keeps the conditions at s; it always does where the row does not reduce by it
unfoldable pub keeps : Grammar → Reads → List Arc → ℕ → ℕ → Bool → Bool
keeps g u es s r true = spells es (may_precede g u r) (reverse (g.right r)) (s ∷ [])
keeps g u es s r false = true

-- ---- the least state, then the least rule, that fails

-- the rule that an action reduces by; accept is rule 1
abbrev pub rule_of : Act → List ℕ
rule_of (shift t) = []
rule_of (reduce r) = r ∷ []
rule_of accept = 1 ∷ []
rule_of blank = []
rule_of malformed = []

-- the rules that row s reduces by
unfoldable pub rules_at : Grammar → Reads → ℕ → List ℕ
rules_at g v s = collect (λ a. rule_of (v.act s a)) g.T

-- the least rule that fails at s, counted from 0
unfoldable pub rule_fault : Grammar → Reads → List Arc → ℕ → List ℕ → Option ℕ
rule_fault g u es s rules = lowest (λ i. keeps g u es s (suc i) (among (suc i) rules)) g.G

-- a state that is not reached never fails
unfoldable pub state_fault : Grammar → Reads → Reads → List Arc → ℕ → Bool → Option ℕ
state_fault g u v es s true = rule_fault g u es s (rules_at g v s)
state_fault g u v es s false = None

-- what was found below state s, else what is found there
unfoldable pub or_fault : Verdict → Option ℕ → ℕ → Verdict
or_fault (unsound p r) l s = unsound p r
or_fault sound (Some i) s = unsound s (suc i)
or_fault sound None s = sound

-- the least of this many states where fault is found
unfoldable pub least_fault : (ℕ → Option ℕ) → ℕ → Verdict
least_fault fault zero = sound
least_fault fault (suc s) = or_fault (least_fault fault s) (fault s) s

-- ---- the verdict: edges and reached states are worked out once, and handed on

-- where rs are the reached states and es the edges from them
unfoldable pub verdict_of : Grammar → Reads → Reads → ℕ → List ℕ → List Arc → Verdict
verdict_of g u v states rs es = least_fault (λ s. state_fault g u v es s (among s rs)) states

-- where rs are the reached states and es all edges
unfoldable pub verdict_by : Grammar → Reads → Reads → ℕ → List Arc → List ℕ → Verdict
verdict_by g u v states es rs = verdict_of g u v states rs (those (λ e. among e.from rs) es)

-- where es are all edges
unfoldable pub verdict_from : Grammar → Reads → Reads → ℕ → List Arc → Verdict
verdict_from g u v states es = verdict_by g u v states es (reached es states)

-- what the check finds: u is the unsigned table, v the filled one
unfoldable pub verdict : Grammar → Reads → Reads → ℕ → Verdict
verdict g u v states = verdict_from g u v states (arcs g u states)
