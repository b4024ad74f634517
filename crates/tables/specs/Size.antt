-- SIZE: the bounds of the numbers, and the lengths of grammar, table and signing.
use Rattle.std.specs.Prelude.{ℕ, ◌+◌, ◌-◌, ◌*◌, Bool, ◌&&◌, List, leb, eqb, ℤ, length}
use Rattle.tables.specs.declared.Sizes.{Sizes}
use Rattle.tables.specs.Lists.{all, sum}

-- low..high
abbrev pub is_within : ℕ → ℕ → ℕ → Bool
is_within low high n = leb low n && leb n high

-- T 2..256, M T+2..512, G 1..1,024
unfoldable pub numbers_fit : Sizes → Bool
numbers_fit z =
    is_within 2 256 z.terminals && (is_within (z.terminals + 2) 512 z.symbols && is_within 1 1024 z.rules)

-- L 2..1,024
unfoldable pub states_fit : ℕ → Bool
states_fit states = is_within 2 1024 states

-- a right side has 0..64 symbols, and they are as many as the lengths add up to
unfoldable pub rights_fit : List ℕ → ℕ → Bool
rights_fit lens total = all (λ n. leb n 64) lens && eqb (sum lens) total

-- the lengths of a grammar's arrays
unfoldable pub grammar_fits : Sizes → List ℕ → List ℕ → List ℕ → Bool
grammar_fits z left lens rights =
    numbers_fit z && (eqb (length left) z.rules && (eqb (length lens) z.rules && rights_fit lens (length rights)))

-- table length is L x M
unfoldable pub table_fits : Sizes → ℕ → List ℤ → Bool
table_fits z states table = eqb (length table) (states * z.symbols)

-- a rule for each state, a state for each nonterminal
unfoldable pub signing_fits : Sizes → ℕ → List ℕ → List ℕ → Bool
signing_fits z states srule sgoto =
    numbers_fit z && (states_fit states && (eqb (length srule) states && eqb (length sgoto) (z.symbols - z.terminals)))

-- grammar, table and signing together
unfoldable pub all_fit : Sizes → ℕ → List ℕ → List ℕ → List ℕ → List ℤ → List ℕ → List ℕ → Bool
all_fit z states left lens rights table srule sgoto =
    grammar_fits z left lens rights && (signing_fits z states srule sgoto && table_fits z states table)
