-- The four arrays, and placement on them alone: the tests, the searches and the stores, in the order in which they are made.
use Rattle.std.specs.Prelude.{ℕ, zero, suc, ◌+◌, ◌-◌, ◌*◌, Bool, true, false, not, cond, ◌&&◌, ◌||◌, List, ltb, eqb, ℤ, pos, negsuc, get_or, set, replicate}
use Rattle.std.proofs.Math.Option.{Option, none, some}
use Rattle.cells.specs.Read.{Kind, action, goto, is_number}
use Rattle.packing.specs.Job.{Act, blank, shift, rule, Job, is_shift_to, neg, sign_check}
use Rattle.packing.specs.Rows.{row, Plan, search, share, skip, plan}

-- Base, Check, the marks, and the place list
pub record Bench : Type 0 where
  pub bases : List ℤ
  pub checks : List ℤ
  pub marks : List ℕ
  pub places : List ℕ

-- ---- stores

-- an entry at c: Base v, Check k
abbrev pub put_b : ℕ → ℤ → ℤ → Bench → Bench
put_b c v k B = record { bases = set B.bases c v; checks = set B.checks c k; marks = set B.marks c 1; places = B.places }

-- state t at c with Check k, and its attached cell
abbrev pub settle_b : Job → ℕ → ℕ → ℤ → Bench → Bench
settle_b J t c k B =
    record {
      bases = B.bases;
      checks = set (set B.checks c k) (suc c) (sign_check J (J.ssig t));
      marks = set (set B.marks c 1) (suc c) 1;
      places = set B.places t c;
    }

-- the entry of column a, at c: a shift to a state with a cell is a pointer, else the state stands here
abbrev pub write_b : Job → ℕ → ℕ → Act → Bench → Bench
write_b J a c blank B = B
write_b J a c (rule r) B = put_b c (neg r) (pos a) B
write_b J a c (shift t) B = cond (eqb (get_or B.places t 0) 0) (settle_b J t c (pos a) B) (put_b c (neg (J.rules + get_or B.places t 0)) (pos a) B)

-- the columns below n of the row of s, at base b
abbrev pub fill_b : Job → Kind → ℕ → ℕ → ℕ → Bench → Bench
fill_b J κ s b zero B = B
fill_b J κ s b (suc a) B = write_b J a (b + 2 * a) (row J κ s a) (fill_b J κ s b a B)

-- the cell that holds the base of s of one kind: its own, or its attached cell
abbrev pub cell_of : Kind → List ℕ → ℕ → ℕ
cell_of action places s = get_or places s 0
cell_of goto places s = suc (get_or places s 0)

-- the base of the row of s: at the state's cell, or at its attached cell
abbrev pub base_b : Kind → ℕ → ℕ → Bench → Bench
base_b action s b B = record { bases = set B.bases (get_or B.places s 0) (pos b); checks = B.checks; marks = B.marks; places = B.places }
base_b goto s b B = record { bases = set B.bases (suc (get_or B.places s 0)) (pos b); checks = B.checks; marks = B.marks; places = B.places }

-- ---- tests

-- the cell c is there
abbrev pub inside : ℕ → ℕ → Bool
inside W c = ltb c W

-- by the marks; cells at or above W count as free
abbrev pub free_b : Bench → ℕ → Bool
free_b B c = eqb (get_or B.marks c 0) 0

-- t, which is not 0, has no cell
abbrev pub no_cell_b : Bench → ℕ → Bool
no_cell_b B t = eqb (get_or B.places t 0) 0

abbrev pub base_of_b : Kind → Bench → ℕ → ℤ
base_of_b action B r = get_or B.bases (get_or B.places r 0) (pos 0)
base_of_b goto B r = get_or B.bases (suc (get_or B.places r 0)) (pos 0)

-- b is the base of one of the first n states
abbrev pub used_b : Bench → Kind → ℕ → ℕ → Bool
used_b B κ b zero = false
used_b B κ b (suc n) = is_number (base_of_b κ B n) b || used_b B κ b n

-- a column of f below n shifts to t
abbrev pub seen : (ℕ → Act) → ℕ → ℕ → Bool
seen f t zero = false
seen f t (suc n) = is_shift_to (f n) t || seen f t n

-- the cells that entry e at a needs pass the test φ: b+2a, and b+2a+1 if e is the first to shift to a state without a cell (hl)
abbrev pub needs : (ℕ → Bool) → (ℕ → Bool) → (ℕ → Act) → ℕ → ℕ → Act → Bool
needs φ hl f b a blank = true
needs φ hl f b a (rule r) = φ (b + 2 * a)
needs φ hl f b a (shift t) = φ (b + 2 * a) && cond (hl t && not (seen f t a)) (φ (suc (b + 2 * a))) true

-- the columns below n
abbrev pub needs_upto : (ℕ → Bool) → (ℕ → Bool) → (ℕ → Act) → ℕ → ℕ → Bool
needs_upto φ hl f b zero = true
needs_upto φ hl f b (suc a) = needs_upto φ hl f b a && needs φ hl f b a (f a)

-- b is no earlier row's base, and the cells that the row of s needs are free
unfoldable pub try_b : Job → Kind → ℕ → Bench → ℕ → Bool
try_b J κ s B b = not (used_b B κ b s) && needs_upto (free_b B) (no_cell_b B) (row J κ s) b J.syms

-- the first from b on (at most n more) that passes the test f; the Bool is the test at b
abbrev pub first_b : (ℕ → Bool) → ℕ → ℕ → Bool → ℕ
first_b f zero b true = b
first_b f zero b false = b
first_b f (suc n) b true = b
first_b f (suc n) b false = first_b f n (suc b) (f (suc b))

-- ---- a row

abbrev pub nat_of : ℤ → ℕ
nat_of (pos n) = n
nat_of (negsuc n) = 0

-- the row of s at base b, if there is room
abbrev pub place_b : Job → ℕ → Kind → ℕ → Bench → ℕ → Option Bench
place_b J W κ s B b = cond (needs_upto (inside W) (no_cell_b B) (row J κ s) b J.syms) (some (fill_b J κ s b J.syms (base_b κ s b B))) none

abbrev pub row_by_b : Plan → Job → ℕ → ℕ → Kind → ℕ → Bench → Option Bench
row_by_b skip J W fuel κ s B = some B
row_by_b (share r) J W fuel κ s B = some (base_b κ s (nat_of (base_of_b κ B r)) B)
row_by_b search J W fuel κ s B = place_b J W κ s B (first_b (try_b J κ s B) fuel 1 (try_b J κ s B 1))

unfoldable pub row_b : Job → ℕ → ℕ → Kind → ℕ → Bench → Option Bench
row_b J W fuel κ s B = row_by_b (plan J κ s) J W fuel κ s B

-- ---- the turn of a state

abbrev pub bind_b : Option Bench → (Bench → Option Bench) → Option Bench
bind_b none f = none
bind_b (some B) f = f B

-- state t at c with Check k, if there is room
unfoldable pub house_b : Job → ℕ → ℕ → ℕ → ℤ → Bench → Option Bench
house_b J W t c k B = cond (inside W c && inside W (suc c)) (some (settle_b J t c k B)) none

-- x and x+1 are free
abbrev pub free2_b : Bench → ℕ → Bool
free2_b B x = free_b B x && free_b B (suc x)

-- if s has no cell, it takes the least x from 1 up with x and x+1 free
unfoldable pub home_b : Job → ℕ → ℕ → ℕ → Bench → Option Bench
home_b J W fuel s B = cond (not (eqb s 0) && no_cell_b B s) (house_b J W s (first_b (free2_b B) fuel 1 (free2_b B 1)) (pos J.syms) B) (some B)

unfoldable pub state_b : Job → ℕ → ℕ → ℕ → Bench → Option Bench
state_b J W fuel s B = bind_b (home_b J W fuel s B) (λ C. bind_b (row_b J W fuel action s C) (row_b J W fuel goto s))

-- the states below n
abbrev pub states_b : Job → ℕ → ℕ → ℕ → Bench → Option Bench
states_b J W fuel zero B = some B
states_b J W fuel (suc s) B = bind_b (states_b J W fuel s B) (state_b J W fuel s)

-- ---- all of placement

-- the signed target t of A
abbrev pub target_b : Job → ℕ → ℕ → ℕ → Bench → Option Bench
target_b J W A zero B = some B
target_b J W A (suc t) B = house_b J W (suc t) (J.off A) (pos A) B

-- the first n nonterminals
abbrev pub targets_b : Job → ℕ → ℕ → Bench → Option Bench
targets_b J W zero B = some B
targets_b J W (suc n) B = bind_b (targets_b J W n B) (target_b J W (J.terms + n) (J.gsig (J.terms + n)))

-- every cell Base 0, Check M
unfoldable pub blank_b : Job → ℕ → Bench
blank_b J W = record { bases = replicate W (pos 0); checks = replicate W (pos J.syms); marks = replicate W 0; places = replicate J.states 0 }

-- state 0 at cell 0 with Check M, the signed targets, the states
unfoldable pub placement_b : Job → ℕ → ℕ → Option Bench
placement_b J W fuel =
    bind_b (house_b J W 0 0 (pos J.syms) (blank_b J W)) (λ B. bind_b (targets_b J W (J.syms - J.terms) B) (states_b J W fuel J.states))
