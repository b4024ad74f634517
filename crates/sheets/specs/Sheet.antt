-- The signing sheet: the one text of a signing.
use Rattle.std.specs.Prelude.{ℕ, ◌+◌, cond, List, [], ◌∷◌, ◌++◌, eqb, drop}
use Rattle.tables.specs.declared.Sizes.{Sizes}
use Rattle.sheets.specs.Decimal.{decimal}

-- `=`
abbrev pub equals : List ℕ
equals = 61 ∷ []

-- LF
abbrev pub line_end : List ℕ
line_end = 10 ∷ []

-- `none`
abbrev pub none_word : List ℕ
none_word = 110 ∷ 111 ∷ 110 ∷ 101 ∷ []

-- `sheet`
abbrev pub sheet_key : List ℕ
sheet_key = 115 ∷ 104 ∷ 101 ∷ 101 ∷ 116 ∷ []

-- `terminals`
abbrev pub terminals_key : List ℕ
terminals_key = 116 ∷ 101 ∷ 114 ∷ 109 ∷ 105 ∷ 110 ∷ 97 ∷ 108 ∷ 115 ∷ []

-- `symbols`
abbrev pub symbols_key : List ℕ
symbols_key = 115 ∷ 121 ∷ 109 ∷ 98 ∷ 111 ∷ 108 ∷ 115 ∷ []

-- `rules`
abbrev pub rules_key : List ℕ
rules_key = 114 ∷ 117 ∷ 108 ∷ 101 ∷ 115 ∷ []

-- `states`
abbrev pub states_key : List ℕ
states_key = 115 ∷ 116 ∷ 97 ∷ 116 ∷ 101 ∷ 115 ∷ []

-- `state.`
abbrev pub state_key : List ℕ
state_key = 115 ∷ 116 ∷ 97 ∷ 116 ∷ 101 ∷ 46 ∷ []

-- `goto.`
abbrev pub goto_key : List ℕ
goto_key = 103 ∷ 111 ∷ 116 ∷ 111 ∷ 46 ∷ []

-- what stands after `=` for an entry of the signing: `none`, or the number
unfoldable pub value : ℕ → List ℕ
value v = cond (eqb v 0) none_word (decimal v)

-- `key=value`, ended by one LF
unfoldable pub line : List ℕ → List ℕ → List ℕ
line key v = key ++ (equals ++ (v ++ line_end))

-- the key of the entry of state or nonterminal i
unfoldable pub entry_key : List ℕ → ℕ → List ℕ
entry_key key i = key ++ decimal i

-- the header: the edition, then the caller's numbers
unfoldable pub header : Sizes → ℕ → List (List ℕ)
header z states =
    line sheet_key (decimal 1)
    ∷ line terminals_key (decimal z.terminals)
    ∷ line symbols_key (decimal z.symbols)
    ∷ line rules_key (decimal z.rules)
    ∷ line states_key (decimal states)
    ∷ []

-- a line for each entry, from number i on
unfoldable pub entries : List ℕ → ℕ → List ℕ → List (List ℕ)
entries key i [] = []
entries key i (v ∷ vs) = line (entry_key key i) (value v) ∷ entries key (i + 1) vs

-- lines one after the other
unfoldable pub joined : List (List ℕ) → List ℕ
joined [] = []
joined (l ∷ ls) = l ++ joined ls

-- the lines of a sheet: the header, each state, each nonterminal but T
unfoldable pub sheet_lines : Sizes → ℕ → List ℕ → List ℕ → List (List ℕ)
sheet_lines z states srule sgoto =
    header z states ++ (entries state_key 0 srule ++ entries goto_key (z.terminals + 1) (drop 1 sgoto))

-- the text of a signing
unfoldable pub sheet_text : Sizes → ℕ → List ℕ → List ℕ → List ℕ
sheet_text z states srule sgoto = joined (sheet_lines z states srule sgoto)
