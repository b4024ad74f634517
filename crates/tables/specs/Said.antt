-- 'What is said back': the number of each answer, and the values that come with it.
use Rattle.std.specs.Prelude.{ℕ, List, [], ◌∷◌}

pub record Said : Type 0 where
  pub number : ℕ
  pub values : List ℕ

abbrev pub answer : ℕ → List ℕ → Said
answer n vs = record { number = n; values = vs }

-- what comes with OK depends on what was asked
abbrev pub OK : List ℕ → Said
OK vs = answer 0 vs

abbrev pub SIZE : Said
SIZE = answer 1 []

-- the lowest bad rule
abbrev pub GRAMMAR : ℕ → Said
GRAMMAR r = answer 2 (r ∷ [])

-- the lowest bad index of the table
abbrev pub ENTRY : ℕ → Said
ENTRY i = answer 3 (i ∷ [])

-- the lowest bad state, else nonterminal, saying which: 0 and the state, or 1 and the nonterminal
abbrev pub SIGN-STATE : ℕ → Said
SIGN-STATE s = answer 4 (0 ∷ s ∷ [])

abbrev pub SIGN-NONTERMINAL : ℕ → Said
SIGN-NONTERMINAL x = answer 4 (1 ∷ x ∷ [])

-- placement would take a cell W or above
abbrev pub NOROOM : Said
NOROOM = answer 5 []

-- the least state, then the least rule, that fails on some path
abbrev pub UNSOUND : ℕ → ℕ → Said
UNSOUND s r = answer 6 (s ∷ r ∷ [])

-- the token index
abbrev pub TOKEN : ℕ → Said
TOKEN i = answer 7 (i ∷ [])

abbrev pub SYNTAX : ℕ → Said
SYNTAX i = answer 8 (i ∷ [])

-- the token index and the rule
abbrev pub UNDERFLOW : ℕ → ℕ → Said
UNDERFLOW i r = answer 9 (i ∷ r ∷ [])

abbrev pub NOGOTO : ℕ → ℕ → Said
NOGOTO i r = answer 10 (i ∷ r ∷ [])

-- the token index
abbrev pub STACK : ℕ → Said
STACK i = answer 11 (i ∷ [])

abbrev pub OUTPUT : ℕ → Said
OUTPUT i = answer 12 (i ∷ [])

abbrev pub MOVES : ℕ → Said
MOVES i = answer 13 (i ∷ [])

-- the cell of the state that was read
abbrev pub BADCELL : ℕ → Said
BADCELL x = answer 14 (x ∷ [])

-- the sheet's line, from 1
abbrev pub LINE : ℕ → Said
LINE n = answer 15 (n ∷ [])

-- sheet text longer than the lent buffer
abbrev pub TEXT : Said
TEXT = answer 16 []
