-- The symbols of the house notation: the terminals 1..17 of 01 (0 is the end mark, which is never in a token list), then the nonterminals, one for each field.
use Rattle.std.specs.Prelude.{ℕ}

-- ---- terminals

abbrev pub VARIANT : ℕ
VARIANT = 1

abbrev pub NAME : ℕ
NAME = 2

abbrev pub PITS : ℕ
PITS = 3

abbrev pub SEEDS : ℕ
SEEDS = 4

abbrev pub SOW : ℕ
SOW = 5

abbrev pub LAPS : ℕ
LAPS = 6

abbrev pub CAPTURE : ℕ
CAPTURE = 7

abbrev pub EQUALS : ℕ
EQUALS = 8

abbrev pub NUMBER : ℕ
NUMBER = 9

abbrev pub LEFT : ℕ
LEFT = 10

abbrev pub RIGHT : ℕ
RIGHT = 11

abbrev pub SINGLE : ℕ
SINGLE = 12

abbrev pub RELAY : ℕ
RELAY = 13

abbrev pub OPPOSITE : ℕ
OPPOSITE = 14

abbrev pub EXACT : ℕ
EXACT = 15

abbrev pub NOTHING : ℕ
NOTHING = 16

abbrev pub THEN : ℕ
THEN = 17

-- ---- nonterminals

-- the start symbol
abbrev pub start : ℕ
start = 18

-- one or more variants
abbrev pub book : ℕ
book = 19

-- a variant with its five fields
abbrev pub variant : ℕ
variant = 20

-- the field PITS
abbrev pub pits : ℕ
pits = 21

-- the field SEEDS
abbrev pub seeds : ℕ
seeds = 22

-- the field SOW
abbrev pub sow : ℕ
sow = 23

-- the field LAPS
abbrev pub laps : ℕ
laps = 24

-- the field CAPTURE
abbrev pub capture : ℕ
capture = 25

-- takes joined by THEN
abbrev pub takes : ℕ
takes = 26

-- one take
abbrev pub take : ℕ
take = 27
