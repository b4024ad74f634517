-- What each symbol of the house notation yields is what the notation allows. Assumes nothing.
use Rattle.std.specs.Prelude.{List, [], ◌∷◌, ◌++◌, ◌≡◌, ℕ, suc, ◌≤◌, ◌<◌}
use Rattle.std.proofs.Common.{append-nil, subst, arith}
use Rattle.std.proofs.Math.Decide.{ℕ_discrete}
use Rattle.tables.specs.Lists.{sum}
use Rattle.tables.specs.Grammar.{grammar, right_at}
use Rattle.house.specs.Symbols.{VARIANT, NAME, PITS, SEEDS, SOW, LAPS, CAPTURE, EQUALS, NUMBER, LEFT, RIGHT, SINGLE, RELAY, OPPOSITE, EXACT, NOTHING, THEN}
use Rattle.house.specs.Symbols.{start, book, variant, pits, seeds, sow, laps, capture, takes, take}
use Rattle.house.specs.House.{house_left, house_lens, house_rights}
use Rattle.house.specs.Parse.{house_grammar}
use Rattle.house.specs.Notation.{Direction, to-left, to-right, Laps, single, relay, Take, opposite, exact, nothing, Takes, one-take, and_then}
use Rattle.house.specs.Notation.{Variant, five-fields, Book, one-variant, and-variant}
use Rattle.soundness.specs.Laws.Yields.{Yields, Pieces, no_pieces, piece, yields-pieces}

-- what a word of each symbol is
data Means : ℕ → List ℕ → Type 0 where
  a-terminal : {a : ℕ} → a < 18 → Means a (a ∷ [])
  the-book : {w : List ℕ} → Book w → Means start w
  a-book : {w : List ℕ} → Book w → Means book w
  a_variant : {w : List ℕ} → Variant w → Means variant w
  the-pits : Means pits (PITS ∷ EQUALS ∷ NUMBER ∷ [])
  the-seeds : Means seeds (SEEDS ∷ EQUALS ∷ NUMBER ∷ [])
  the-sow : {d : ℕ} → Direction d → Means sow (SOW ∷ EQUALS ∷ d ∷ [])
  the-laps : {l : ℕ} → Laps l → Means laps (LAPS ∷ EQUALS ∷ l ∷ [])
  the-capture : {c : List ℕ} → Takes c → Means capture (CAPTURE ∷ EQUALS ∷ c)
  some-takes : {w : List ℕ} → Takes w → Means takes w
  a_take : {w : List ℕ} → Take w → Means take w

-- nothing follows the last piece
last : (P : List ℕ → Type 0) (w : List ℕ) → P w → P (w ++ [])
last P w p = rw (append-nil w) p

-- ---- each rule

rule-1 : {w : List ℕ} → Pieces Means (book ∷ []) w → Means start w
rule-1 (piece (a-terminal h) no_pieces) = absurd (omega arith)
rule-1 (piece (a-book {w = w} b) no_pieces) = last (Means start) w (the-book b)

rule-2 : {w : List ℕ} → Pieces Means (book ∷ variant ∷ []) w → Means book w
rule-2 (piece (a-terminal h) ps) = absurd (omega arith)
rule-2 (piece (a-book b) (piece (a-terminal h) ps)) = absurd (omega arith)
rule-2 (piece (a-book {w = u} b) (piece (a_variant {w = w} v) no_pieces)) = a-book (and-variant b (last Variant w v))

rule-3 : {w : List ℕ} → Pieces Means (variant ∷ []) w → Means book w
rule-3 (piece (a-terminal h) ps) = absurd (omega arith)
rule-3 (piece (a_variant {w = w} v) no_pieces) = a-book (last Book w (one-variant v))

rule-4 : {w : List ℕ} → Pieces Means (VARIANT ∷ NAME ∷ pits ∷ seeds ∷ sow ∷ laps ∷ capture ∷ []) w → Means variant w
rule-4 (piece (a-terminal v) (piece (a-terminal n) (piece (a-terminal h) ps))) = absurd (omega arith)
rule-4 (piece (a-terminal v) (piece (a-terminal n) (piece the-pits (piece (a-terminal h) ps)))) = absurd (omega arith)
rule-4 (piece (a-terminal v) (piece (a-terminal n) (piece the-pits (piece the-seeds (piece (a-terminal h) ps))))) = absurd (omega arith)
rule-4 (piece (a-terminal v) (piece (a-terminal n) (piece the-pits (piece the-seeds (piece (the-sow d) (piece (a-terminal h) ps)))))) = absurd (omega arith)
rule-4 (piece (a-terminal v) (piece (a-terminal n) (piece the-pits (piece the-seeds (piece (the-sow d) (piece (the-laps l) (piece (a-terminal h) ps))))))) =
    absurd (omega arith)
rule-4 (piece (a-terminal v) (piece (a-terminal n) (piece the-pits (piece the-seeds (piece (the-sow d) (piece (the-laps l) (piece (the-capture {c = c} t) no_pieces))))))) =
    a_variant (five-fields d l (last Takes c t))

rule-5 : {w : List ℕ} → Pieces Means (PITS ∷ EQUALS ∷ NUMBER ∷ []) w → Means pits w
rule-5 (piece (a-terminal p) (piece (a-terminal e) (piece (a-terminal n) no_pieces))) = the-pits

rule-6 : {w : List ℕ} → Pieces Means (SEEDS ∷ EQUALS ∷ NUMBER ∷ []) w → Means seeds w
rule-6 (piece (a-terminal p) (piece (a-terminal e) (piece (a-terminal n) no_pieces))) = the-seeds

rule-7 : {w : List ℕ} → Pieces Means (SOW ∷ EQUALS ∷ LEFT ∷ []) w → Means sow w
rule-7 (piece (a-terminal p) (piece (a-terminal e) (piece (a-terminal n) no_pieces))) = the-sow to-left

rule-8 : {w : List ℕ} → Pieces Means (SOW ∷ EQUALS ∷ RIGHT ∷ []) w → Means sow w
rule-8 (piece (a-terminal p) (piece (a-terminal e) (piece (a-terminal n) no_pieces))) = the-sow to-right

rule-9 : {w : List ℕ} → Pieces Means (LAPS ∷ EQUALS ∷ SINGLE ∷ []) w → Means laps w
rule-9 (piece (a-terminal p) (piece (a-terminal e) (piece (a-terminal n) no_pieces))) = the-laps single

rule-10 : {w : List ℕ} → Pieces Means (LAPS ∷ EQUALS ∷ RELAY ∷ []) w → Means laps w
rule-10 (piece (a-terminal p) (piece (a-terminal e) (piece (a-terminal n) no_pieces))) = the-laps relay

rule-11 : {w : List ℕ} → Pieces Means (CAPTURE ∷ EQUALS ∷ takes ∷ []) w → Means capture w
rule-11 (piece (a-terminal p) (piece (a-terminal e) (piece (a-terminal h) ps))) = absurd (omega arith)
rule-11 (piece (a-terminal p) (piece (a-terminal e) (piece (some-takes {w = w} t) no_pieces))) = the-capture (last Takes w t)

rule-12 : {w : List ℕ} → Pieces Means (takes ∷ THEN ∷ take ∷ []) w → Means takes w
rule-12 (piece (a-terminal h) ps) = absurd (omega arith)
rule-12 (piece (some-takes t) (piece (a-terminal n) (piece (a-terminal h) ps))) = absurd (omega arith)
rule-12 (piece (some-takes t) (piece (a-terminal n) (piece (a_take {w = w} k) no_pieces))) = some-takes (and_then t (last Take w k))

rule-13 : {w : List ℕ} → Pieces Means (take ∷ []) w → Means takes w
rule-13 (piece (a-terminal h) ps) = absurd (omega arith)
rule-13 (piece (a_take {w = w} k) no_pieces) = some-takes (one-take (last Take w k))

rule-14 : {w : List ℕ} → Pieces Means (OPPOSITE ∷ []) w → Means take w
rule-14 (piece (a-terminal p) no_pieces) = a_take opposite

rule-15 : {w : List ℕ} → Pieces Means (EXACT ∷ NUMBER ∷ []) w → Means take w
rule-15 (piece (a-terminal p) (piece (a-terminal n) no_pieces)) = a_take exact

rule-16 : {w : List ℕ} → Pieces Means (NOTHING ∷ []) w → Means take w
rule-16 (piece (a-terminal p) no_pieces) = a_take nothing

-- ---- all rules

abbrev Kept : ℕ → Type 0
Kept r = (w : List ℕ) → Pieces Means (house_grammar.right r) w → Means (house_grammar.left r) w

-- rule n, and those above it
from : (n : ℕ) → Kept n → ((r : ℕ) → suc n ≤ r → r ≤ 16 → Kept r) → (r : ℕ) → n ≤ r → r ≤ 16 → Kept r
from n here above r l h = by (ℕ_discrete n r)
  where
    by : Dec (n ≡ r) → Kept r
    by (yes e) = subst Kept e here
    by (no d) = above r (omega arith) h

rules : (r : ℕ) → 1 ≤ r → r ≤ 16 → Kept r
unfolding grammar right_at sum house_left house_lens house_rights
rules =
    from 1 (λ w. rule-1)
    (from 2 (λ w. rule-2)
    (from 3 (λ w. rule-3)
    (from 4 (λ w. rule-4)
    (from 5 (λ w. rule-5)
    (from 6 (λ w. rule-6)
    (from 7 (λ w. rule-7)
    (from 8 (λ w. rule-8)
    (from 9 (λ w. rule-9)
    (from 10 (λ w. rule-10)
    (from 11 (λ w. rule-11)
    (from 12 (λ w. rule-12)
    (from 13 (λ w. rule-13)
    (from 14 (λ w. rule-14)
    (from 15 (λ w. rule-15)
    (from 16 (λ w. rule-16)
    (λ r l h. absurd (omega arith)))))))))))))))))

start-means : {w : List ℕ} → Pieces Means (start ∷ []) w → Book w
start-means (piece (a-terminal h) ps) = absurd (omega arith)
start-means (piece (the-book {w = w} b) no_pieces) = last Book w b

-- what the start symbol yields is a book
pub yields-book : {w : List ℕ} → Yields house_grammar (start ∷ []) w → Book w
unfolding grammar
yields-book y = start-means (yields-pieces Means (λ a l h. a-terminal h) rules y)
