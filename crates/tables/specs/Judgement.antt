-- The judgement of grammar, table and signing: numbers 1 to 4, in that order.
use Rattle.std.specs.Prelude.{ℕ, ◌+◌, cond, List, [], ℤ, Option, Some, None, Result, Ok, Err}
use Rattle.tables.specs.declared.Sizes.{Sizes}
use Rattle.tables.specs.declared.Refusal.{Refusal}
use Rattle.tables.specs.declared.Refusal.TheVariants.{Size, Grammar, Entry, State, Nonterminal}
use Rattle.tables.specs.Said.{Said, OK, SIZE, GRAMMAR, ENTRY, SIGN-STATE, SIGN-NONTERMINAL}
use Rattle.tables.specs.Size.{grammar_fits, signing_fits, all_fit}
use Rattle.tables.specs.Grammar.{lowest_rule}
use Rattle.tables.specs.Entry.{lowest_entry}
use Rattle.tables.specs.Signing.{lowest_state, lowest_target}

-- the number and the values of each refusal
abbrev pub refused : Refusal → Said
refused Size = SIZE
refused (Grammar r) = GRAMMAR r
refused (Entry i) = ENTRY i
refused (State s) = SIGN-STATE s
refused (Nonterminal x) = SIGN-NONTERMINAL x

-- what a judgement says
abbrev pub said_of : Result (Unit {0}) Refusal → Said
said_of (Ok u) = OK []
said_of (Err e) = refused e

-- the refusal that names the lowest bad one, else what comes after
abbrev pub named : Option ℕ → (ℕ → Said) → Said → Said
named (Some k) name next = name k
named None name next = next

-- SIGN
unfoldable pub sign_judgement : Sizes → ℕ → List ℕ → List ℕ → Said
sign_judgement z states srule sgoto =
    named (lowest_state z srule) SIGN-STATE
    (named (lowest_target states sgoto) (λ i. SIGN-NONTERMINAL (z.terminals + i)) (OK []))

-- SIZE, then SIGN
unfoldable pub signing_judgement : Sizes → ℕ → List ℕ → List ℕ → Said
signing_judgement z states srule sgoto = cond (signing_fits z states srule sgoto) (sign_judgement z states srule sgoto) SIZE

-- SIZE, then GRAMMAR
unfoldable pub grammar_judgement : Sizes → List ℕ → List ℕ → List ℕ → Said
grammar_judgement z left lens rights =
    cond (grammar_fits z left lens rights) (named (lowest_rule z left lens rights) (λ i. GRAMMAR (i + 1)) (OK [])) SIZE

-- SIZE, then GRAMMAR, then ENTRY, then SIGN
unfoldable pub judgement : Sizes → ℕ → List ℕ → List ℕ → List ℕ → List ℤ → List ℕ → List ℕ → Said
judgement z states left lens rights table srule sgoto =
    cond (all_fit z states left lens rights table srule sgoto)
    (named (lowest_rule z left lens rights) (λ i. GRAMMAR (i + 1))
    (named (lowest_entry z states table) ENTRY (sign_judgement z states srule sgoto)))
    SIZE
