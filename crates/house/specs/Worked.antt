-- Two sheets of the house notation: a book of two variants, and the same book whose first variant lacks its CAPTURE.
use Rattle.std.specs.Prelude.{List, [], ◌∷◌, ◌++◌, ℕ}
use Rattle.house.specs.Symbols.{VARIANT, NAME, PITS, SEEDS, SOW, LAPS, CAPTURE, EQUALS, NUMBER, LEFT, RIGHT, SINGLE, RELAY, OPPOSITE, EXACT, NOTHING, THEN}

-- a variant up to its CAPTURE
abbrev four_fields : List ℕ
four_fields =
    VARIANT ∷ NAME ∷ PITS ∷ EQUALS ∷ NUMBER ∷ SEEDS ∷ EQUALS ∷ NUMBER ∷ SOW ∷ EQUALS ∷ LEFT ∷ LAPS ∷ EQUALS ∷ RELAY ∷ []

abbrev capture : List ℕ
capture = CAPTURE ∷ EQUALS ∷ OPPOSITE ∷ THEN ∷ EXACT ∷ NUMBER ∷ []

abbrev second_variant : List ℕ
second_variant =
    VARIANT ∷ NAME ∷ PITS ∷ EQUALS ∷ NUMBER ∷ SEEDS ∷ EQUALS ∷ NUMBER ∷ SOW ∷ EQUALS ∷ RIGHT ∷ LAPS ∷ EQUALS ∷ SINGLE ∷ CAPTURE ∷ EQUALS ∷ NOTHING ∷ []

abbrev pub whole_sheet : List ℕ
whole_sheet = four_fields ++ (capture ++ second_variant)

abbrev pub lacking_sheet : List ℕ
lacking_sheet = four_fields ++ second_variant
