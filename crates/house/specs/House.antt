-- The house notation's grammar and table, as `tools/house/make --specs` prints them.
use Rattle.std.specs.Prelude.{ℕ, List, [], ◌∷◌, ℤ, pos, neg_ℤ}
use Rattle.tables.specs.declared.Sizes.{Sizes}
use Rattle.house.specs.Symbols.{VARIANT, NAME, PITS, SEEDS, SOW, LAPS, CAPTURE, EQUALS, NUMBER, LEFT, RIGHT, SINGLE, RELAY, OPPOSITE, EXACT, NOTHING, THEN, start, book, variant, pits, seeds, sow, laps, capture, takes, take}

-- how many terminals, symbols and rules
abbrev pub house_sizes : Sizes
house_sizes = record { terminals = 18; symbols = 28; rules = 16 }

-- how many states
abbrev pub house_states : ℕ
house_states = 35

-- the left side of each rule
unfoldable pub house_left : List ℕ
house_left =
    start ∷ book ∷ book ∷ variant ∷ pits ∷ seeds ∷ sow ∷ sow ∷ laps ∷ laps ∷ capture ∷ takes ∷ takes ∷ take ∷ take ∷ take ∷ []

-- the length of each rule's right side
unfoldable pub house_lens : List ℕ
house_lens =
    1 ∷ 2 ∷ 1 ∷ 7 ∷ 3 ∷ 3 ∷ 3 ∷ 3 ∷ 3 ∷ 3 ∷ 3 ∷ 3 ∷ 1 ∷ 1 ∷ 2 ∷ 1 ∷ []

-- the right sides, a rule a line
unfoldable pub house_rights : List ℕ
house_rights =
    book ∷
    book ∷ variant ∷
    variant ∷
    VARIANT ∷ NAME ∷ pits ∷ seeds ∷ sow ∷ laps ∷ capture ∷
    PITS ∷ EQUALS ∷ NUMBER ∷
    SEEDS ∷ EQUALS ∷ NUMBER ∷
    SOW ∷ EQUALS ∷ LEFT ∷
    SOW ∷ EQUALS ∷ RIGHT ∷
    LAPS ∷ EQUALS ∷ SINGLE ∷
    LAPS ∷ EQUALS ∷ RELAY ∷
    CAPTURE ∷ EQUALS ∷ takes ∷
    takes ∷ THEN ∷ take ∷
    take ∷
    OPPOSITE ∷
    EXACT ∷ NUMBER ∷
    NOTHING ∷ []

-- an entry: blank, a state to shift or go to, a rule to reduce by; rule 1 accepts
abbrev o : ℤ
o = pos 0

abbrev to : ℕ → ℤ
to t = pos t

abbrev by : ℕ → ℤ
by r = neg_ℤ (pos r)

-- the table, a state a line
unfoldable pub house_table : List ℤ
house_table =
    o ∷ to 1 ∷ o ∷ o ∷ o ∷ o ∷ o ∷ o ∷ o ∷ o ∷ o ∷ o ∷ o ∷ o ∷ o ∷ o ∷ o ∷ o ∷ o ∷ to 2 ∷ to 3 ∷ o ∷ o ∷ o ∷ o ∷ o ∷ o ∷ o ∷
    o ∷ o ∷ to 4 ∷ o ∷ o ∷ o ∷ o ∷ o ∷ o ∷ o ∷ o ∷ o ∷ o ∷ o ∷ o ∷ o ∷ o ∷ o ∷ o ∷ o ∷ o ∷ o ∷ o ∷ o ∷ o ∷ o ∷ o ∷ o ∷
    by 1 ∷ to 1 ∷ o ∷ o ∷ o ∷ o ∷ o ∷ o ∷ o ∷ o ∷ o ∷ o ∷ o ∷ o ∷ o ∷ o ∷ o ∷ o ∷ o ∷ o ∷ to 5 ∷ o ∷ o ∷ o ∷ o ∷ o ∷ o ∷ o ∷
    by 3 ∷ by 3 ∷ o ∷ o ∷ o ∷ o ∷ o ∷ o ∷ o ∷ o ∷ o ∷ o ∷ o ∷ o ∷ o ∷ o ∷ o ∷ o ∷ o ∷ o ∷ o ∷ o ∷ o ∷ o ∷ o ∷ o ∷ o ∷ o ∷
    o ∷ o ∷ o ∷ to 6 ∷ o ∷ o ∷ o ∷ o ∷ o ∷ o ∷ o ∷ o ∷ o ∷ o ∷ o ∷ o ∷ o ∷ o ∷ o ∷ o ∷ o ∷ to 7 ∷ o ∷ o ∷ o ∷ o ∷ o ∷ o ∷
    by 2 ∷ by 2 ∷ o ∷ o ∷ o ∷ o ∷ o ∷ o ∷ o ∷ o ∷ o ∷ o ∷ o ∷ o ∷ o ∷ o ∷ o ∷ o ∷ o ∷ o ∷ o ∷ o ∷ o ∷ o ∷ o ∷ o ∷ o ∷ o ∷
    o ∷ o ∷ o ∷ o ∷ o ∷ o ∷ o ∷ o ∷ to 8 ∷ o ∷ o ∷ o ∷ o ∷ o ∷ o ∷ o ∷ o ∷ o ∷ o ∷ o ∷ o ∷ o ∷ o ∷ o ∷ o ∷ o ∷ o ∷ o ∷
    o ∷ o ∷ o ∷ o ∷ to 9 ∷ o ∷ o ∷ o ∷ o ∷ o ∷ o ∷ o ∷ o ∷ o ∷ o ∷ o ∷ o ∷ o ∷ o ∷ o ∷ o ∷ o ∷ to 10 ∷ o ∷ o ∷ o ∷ o ∷ o ∷
    o ∷ o ∷ o ∷ o ∷ o ∷ o ∷ o ∷ o ∷ o ∷ to 11 ∷ o ∷ o ∷ o ∷ o ∷ o ∷ o ∷ o ∷ o ∷ o ∷ o ∷ o ∷ o ∷ o ∷ o ∷ o ∷ o ∷ o ∷ o ∷
    o ∷ o ∷ o ∷ o ∷ o ∷ o ∷ o ∷ o ∷ to 12 ∷ o ∷ o ∷ o ∷ o ∷ o ∷ o ∷ o ∷ o ∷ o ∷ o ∷ o ∷ o ∷ o ∷ o ∷ o ∷ o ∷ o ∷ o ∷ o ∷
    o ∷ o ∷ o ∷ o ∷ o ∷ to 13 ∷ o ∷ o ∷ o ∷ o ∷ o ∷ o ∷ o ∷ o ∷ o ∷ o ∷ o ∷ o ∷ o ∷ o ∷ o ∷ o ∷ o ∷ to 14 ∷ o ∷ o ∷ o ∷ o ∷
    o ∷ o ∷ o ∷ o ∷ by 5 ∷ o ∷ o ∷ o ∷ o ∷ o ∷ o ∷ o ∷ o ∷ o ∷ o ∷ o ∷ o ∷ o ∷ o ∷ o ∷ o ∷ o ∷ o ∷ o ∷ o ∷ o ∷ o ∷ o ∷
    o ∷ o ∷ o ∷ o ∷ o ∷ o ∷ o ∷ o ∷ o ∷ to 15 ∷ o ∷ o ∷ o ∷ o ∷ o ∷ o ∷ o ∷ o ∷ o ∷ o ∷ o ∷ o ∷ o ∷ o ∷ o ∷ o ∷ o ∷ o ∷
    o ∷ o ∷ o ∷ o ∷ o ∷ o ∷ o ∷ o ∷ to 16 ∷ o ∷ o ∷ o ∷ o ∷ o ∷ o ∷ o ∷ o ∷ o ∷ o ∷ o ∷ o ∷ o ∷ o ∷ o ∷ o ∷ o ∷ o ∷ o ∷
    o ∷ o ∷ o ∷ o ∷ o ∷ o ∷ to 17 ∷ o ∷ o ∷ o ∷ o ∷ o ∷ o ∷ o ∷ o ∷ o ∷ o ∷ o ∷ o ∷ o ∷ o ∷ o ∷ o ∷ o ∷ to 18 ∷ o ∷ o ∷ o ∷
    o ∷ o ∷ o ∷ o ∷ o ∷ by 6 ∷ o ∷ o ∷ o ∷ o ∷ o ∷ o ∷ o ∷ o ∷ o ∷ o ∷ o ∷ o ∷ o ∷ o ∷ o ∷ o ∷ o ∷ o ∷ o ∷ o ∷ o ∷ o ∷
    o ∷ o ∷ o ∷ o ∷ o ∷ o ∷ o ∷ o ∷ o ∷ o ∷ to 19 ∷ to 20 ∷ o ∷ o ∷ o ∷ o ∷ o ∷ o ∷ o ∷ o ∷ o ∷ o ∷ o ∷ o ∷ o ∷ o ∷ o ∷ o ∷
    o ∷ o ∷ o ∷ o ∷ o ∷ o ∷ o ∷ o ∷ to 21 ∷ o ∷ o ∷ o ∷ o ∷ o ∷ o ∷ o ∷ o ∷ o ∷ o ∷ o ∷ o ∷ o ∷ o ∷ o ∷ o ∷ o ∷ o ∷ o ∷
    o ∷ o ∷ o ∷ o ∷ o ∷ o ∷ o ∷ to 22 ∷ o ∷ o ∷ o ∷ o ∷ o ∷ o ∷ o ∷ o ∷ o ∷ o ∷ o ∷ o ∷ o ∷ o ∷ o ∷ o ∷ o ∷ to 23 ∷ o ∷ o ∷
    o ∷ o ∷ o ∷ o ∷ o ∷ o ∷ by 7 ∷ o ∷ o ∷ o ∷ o ∷ o ∷ o ∷ o ∷ o ∷ o ∷ o ∷ o ∷ o ∷ o ∷ o ∷ o ∷ o ∷ o ∷ o ∷ o ∷ o ∷ o ∷
    o ∷ o ∷ o ∷ o ∷ o ∷ o ∷ by 8 ∷ o ∷ o ∷ o ∷ o ∷ o ∷ o ∷ o ∷ o ∷ o ∷ o ∷ o ∷ o ∷ o ∷ o ∷ o ∷ o ∷ o ∷ o ∷ o ∷ o ∷ o ∷
    o ∷ o ∷ o ∷ o ∷ o ∷ o ∷ o ∷ o ∷ o ∷ o ∷ o ∷ o ∷ to 24 ∷ to 25 ∷ o ∷ o ∷ o ∷ o ∷ o ∷ o ∷ o ∷ o ∷ o ∷ o ∷ o ∷ o ∷ o ∷ o ∷
    o ∷ o ∷ o ∷ o ∷ o ∷ o ∷ o ∷ o ∷ to 26 ∷ o ∷ o ∷ o ∷ o ∷ o ∷ o ∷ o ∷ o ∷ o ∷ o ∷ o ∷ o ∷ o ∷ o ∷ o ∷ o ∷ o ∷ o ∷ o ∷
    by 4 ∷ by 4 ∷ o ∷ o ∷ o ∷ o ∷ o ∷ o ∷ o ∷ o ∷ o ∷ o ∷ o ∷ o ∷ o ∷ o ∷ o ∷ o ∷ o ∷ o ∷ o ∷ o ∷ o ∷ o ∷ o ∷ o ∷ o ∷ o ∷
    o ∷ o ∷ o ∷ o ∷ o ∷ o ∷ o ∷ by 9 ∷ o ∷ o ∷ o ∷ o ∷ o ∷ o ∷ o ∷ o ∷ o ∷ o ∷ o ∷ o ∷ o ∷ o ∷ o ∷ o ∷ o ∷ o ∷ o ∷ o ∷
    o ∷ o ∷ o ∷ o ∷ o ∷ o ∷ o ∷ by 10 ∷ o ∷ o ∷ o ∷ o ∷ o ∷ o ∷ o ∷ o ∷ o ∷ o ∷ o ∷ o ∷ o ∷ o ∷ o ∷ o ∷ o ∷ o ∷ o ∷ o ∷
    o ∷ o ∷ o ∷ o ∷ o ∷ o ∷ o ∷ o ∷ o ∷ o ∷ o ∷ o ∷ o ∷ o ∷ to 27 ∷ to 28 ∷ to 29 ∷ o ∷ o ∷ o ∷ o ∷ o ∷ o ∷ o ∷ o ∷ o ∷ to 30 ∷ to 31 ∷
    by 14 ∷ by 14 ∷ o ∷ o ∷ o ∷ o ∷ o ∷ o ∷ o ∷ o ∷ o ∷ o ∷ o ∷ o ∷ o ∷ o ∷ o ∷ by 14 ∷ o ∷ o ∷ o ∷ o ∷ o ∷ o ∷ o ∷ o ∷ o ∷ o ∷
    o ∷ o ∷ o ∷ o ∷ o ∷ o ∷ o ∷ o ∷ o ∷ to 32 ∷ o ∷ o ∷ o ∷ o ∷ o ∷ o ∷ o ∷ o ∷ o ∷ o ∷ o ∷ o ∷ o ∷ o ∷ o ∷ o ∷ o ∷ o ∷
    by 16 ∷ by 16 ∷ o ∷ o ∷ o ∷ o ∷ o ∷ o ∷ o ∷ o ∷ o ∷ o ∷ o ∷ o ∷ o ∷ o ∷ o ∷ by 16 ∷ o ∷ o ∷ o ∷ o ∷ o ∷ o ∷ o ∷ o ∷ o ∷ o ∷
    by 11 ∷ by 11 ∷ o ∷ o ∷ o ∷ o ∷ o ∷ o ∷ o ∷ o ∷ o ∷ o ∷ o ∷ o ∷ o ∷ o ∷ o ∷ to 33 ∷ o ∷ o ∷ o ∷ o ∷ o ∷ o ∷ o ∷ o ∷ o ∷ o ∷
    by 13 ∷ by 13 ∷ o ∷ o ∷ o ∷ o ∷ o ∷ o ∷ o ∷ o ∷ o ∷ o ∷ o ∷ o ∷ o ∷ o ∷ o ∷ by 13 ∷ o ∷ o ∷ o ∷ o ∷ o ∷ o ∷ o ∷ o ∷ o ∷ o ∷
    by 15 ∷ by 15 ∷ o ∷ o ∷ o ∷ o ∷ o ∷ o ∷ o ∷ o ∷ o ∷ o ∷ o ∷ o ∷ o ∷ o ∷ o ∷ by 15 ∷ o ∷ o ∷ o ∷ o ∷ o ∷ o ∷ o ∷ o ∷ o ∷ o ∷
    o ∷ o ∷ o ∷ o ∷ o ∷ o ∷ o ∷ o ∷ o ∷ o ∷ o ∷ o ∷ o ∷ o ∷ to 27 ∷ to 28 ∷ to 29 ∷ o ∷ o ∷ o ∷ o ∷ o ∷ o ∷ o ∷ o ∷ o ∷ o ∷ to 34 ∷
    by 12 ∷ by 12 ∷ o ∷ o ∷ o ∷ o ∷ o ∷ o ∷ o ∷ o ∷ o ∷ o ∷ o ∷ o ∷ o ∷ o ∷ o ∷ by 12 ∷ o ∷ o ∷ o ∷ o ∷ o ∷ o ∷ o ∷ o ∷ o ∷ o ∷ []
