-- What the house variant notation allows, in the words of 01, on lists of tokens.
use Rattle.std.specs.Prelude.{List, [], ◌∷◌, ◌++◌, ℕ}
use Rattle.house.specs.Symbols.{VARIANT, NAME, PITS, SEEDS, SOW, LAPS, CAPTURE, EQUALS, NUMBER, LEFT, RIGHT, SINGLE, RELAY, OPPOSITE, EXACT, NOTHING, THEN}

-- LEFT or RIGHT
pub data Direction : ℕ → Type 0 where
  to-left : Direction LEFT
  to-right : Direction RIGHT

-- SINGLE or RELAY
pub data Laps : ℕ → Type 0 where
  single : Laps SINGLE
  relay : Laps RELAY

-- OPPOSITE, EXACT NUMBER or NOTHING
pub data Take : List ℕ → Type 0 where
  opposite : Take (OPPOSITE ∷ [])
  exact : Take (EXACT ∷ NUMBER ∷ [])
  nothing : Take (NOTHING ∷ [])

-- takes joined by THEN
pub data Takes : List ℕ → Type 0 where
  one-take : {w : List ℕ} → Take w → Takes w
  and_then : {u w : List ℕ} → Takes u → Take w → Takes (u ++ (THEN ∷ w))

-- VARIANT NAME and the five fields, each once, in this order
pub data Variant : List ℕ → Type 0 where
  five-fields : {d l : ℕ} {c : List ℕ} → Direction d → Laps l → Takes c
      → Variant
      (VARIANT ∷ NAME
      ∷ PITS ∷ EQUALS ∷ NUMBER
      ∷ SEEDS ∷ EQUALS ∷ NUMBER
      ∷ SOW ∷ EQUALS ∷ d
      ∷ LAPS ∷ EQUALS ∷ l
      ∷ CAPTURE ∷ EQUALS ∷ c)

-- one or more variants
pub data Book : List ℕ → Type 0 where
  one-variant : {w : List ℕ} → Variant w → Book w
  and-variant : {u w : List ℕ} → Book u → Variant w → Book (u ++ w)

-- a variant's stretch ends here: nothing follows, or the next VARIANT
pub data Ends : List ℕ → Type 0 where
  at-end : Ends []
  at_next : {w : List ℕ} → Ends (VARIANT ∷ w)
