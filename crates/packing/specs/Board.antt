-- 'Order of placement', on a board that knows the owner of each cell.
use Rattle.std.specs.Prelude.{ℕ, zero, suc, ◌+◌, ◌-◌, ◌*◌, max, Bool, true, false, cond, ◌&&◌, ◌||◌, eqb}
use Rattle.std.proofs.Math.Option.{Option, none, some}
use Rattle.cells.specs.Read.{Kind, action, goto}
use Rattle.packing.specs.Job.{Act, blank, shift, rule, Job}
use Rattle.packing.specs.Rows.{row, Plan, search, share, skip, plan}

-- what a cell is taken by: state s itself, the attached cell of s, the entry of row s at a, the default target of A
pub data Owner : Type 0 where
  free : Owner
  own : ℕ → Owner
  att : ℕ → Owner
  ent : Kind → ℕ → ℕ → Owner
  dflt : ℕ → Owner

-- the owner of each cell, the cell of each state, the base of each row (0 is none), and the highest taken cell plus 1
pub record St : Type 0 where
  pub owner : ℕ → Owner
  pub place : ℕ → Option ℕ
  pub base : Kind → ℕ → ℕ
  pub top : ℕ

abbrev pub is_free : Owner → Bool
is_free free = true
is_free (own s) = false
is_free (att s) = false
is_free (ent κ s a) = false
is_free (dflt A) = false

unfoldable pub empty : St
empty = record { owner = λ c. free; place = λ s. none; base = λ k s. 0; top = 0 }

-- ---- the three things that placement does

-- f with v at i
abbrev pub upd {ℓ} : {X : Type ℓ} → (ℕ → X) → ℕ → X → ℕ → X
upd f i v j = cond (eqb j i) v (f j)

abbrev pub same_kind : Kind → Kind → Bool
same_kind action action = true
same_kind action goto = false
same_kind goto action = false
same_kind goto goto = true

-- o takes the cell c
unfoldable pub put : ℕ → Owner → St → St
put c o P = record { owner = upd P.owner c o; place = P.place; base = P.base; top = max P.top (suc c) }

-- state t stands at c
unfoldable pub house : ℕ → ℕ → St → St
house t c P = record { owner = P.owner; place = upd P.place t (some c); base = P.base; top = P.top }

-- the row of s has base b
unfoldable pub set_base : Kind → ℕ → ℕ → St → St
set_base κ s b P =
    record { owner = P.owner; place = P.place; base = λ k j. cond (same_kind k κ && eqb j s) b (P.base k j); top = P.top }

-- ---- cells are taken only where they are free

abbrev pub guard : Bool → St → Option St
guard true P = some P
guard false P = none

abbrev pub bind : Option St → (St → Option St) → Option St
bind none f = none
bind (some P) f = f P

-- one cell for an entry
unfoldable pub plain : Owner → ℕ → St → Option St
plain o c P = guard (is_free (P.owner c)) (put c o P)

-- a cell and its attached cell, where state t then stands
unfoldable pub settle : Owner → ℕ → ℕ → St → Option St
settle o t c P = guard (is_free (P.owner c) && is_free (P.owner (suc c))) (house t c (put (suc c) (att t) (put c o P)))

-- the first success from b on (at most n more); the Option is the try at b
abbrev pub first : (ℕ → Option St) → ℕ → ℕ → Option St → Option St
first f zero b (some P) = some P
first f zero b none = none
first f (suc n) b (some P) = some P
first f (suc n) b none = first f n (suc b) (f (suc b))

-- ---- each signed target of A is at 2A, or where this edition has it

-- no two are the same state, so none has a cell yet
abbrev pub target_to : Job → ℕ → ℕ → Option ℕ → St → Option St
target_to J A t none P = settle (dflt A) t (J.off A) P
target_to J A t (some x) P = none

abbrev pub target : Job → ℕ → ℕ → St → Option St
target J A zero P = some P
target J A (suc t) P = target_to J A (suc t) (P.place (suc t)) P

-- the first n nonterminals
abbrev pub targets_upto : Job → ℕ → St → Option St
targets_upto J zero P = some P
targets_upto J (suc n) P = bind (targets_upto J n P) (target J (J.terms + n) (J.gsig (J.terms + n)))

-- ---- if s has no cell, it takes the least x from 1 up with x and x+1 free

abbrev pub home_if : Option ℕ → ℕ → ℕ → St → Option St
home_if (some x) fuel s P = some P
home_if none fuel s P = first (λ x. settle (own s) s x P) fuel 1 (settle (own s) s 1 P)

unfoldable pub home_step : ℕ → ℕ → St → Option St
home_step fuel s P = home_if (P.place s) fuel s P

-- ---- a row takes the least b from 1 up that is no other row's base and whose needed cells are free

-- an entry that shifts to t: where t has no cell it stands here, else this is a pointer
abbrev pub toward : Owner → ℕ → ℕ → Option ℕ → St → Option St
toward o t c none P = settle o t c P
toward o t c (some x) P = plain o c P

-- the entry e, at c
abbrev pub write : Owner → ℕ → Act → St → Option St
write o c blank P = some P
write o c (rule r) P = plain o c P
write o c (shift t) P = toward o t c (P.place t) P

-- the columns below n of the row of s, at base b
abbrev pub fill : Job → Kind → ℕ → ℕ → ℕ → St → Option St
fill J κ s b zero P = some P
fill J κ s b (suc a) P = bind (fill J κ s b a P) (write (ent κ s a) (b + 2 * a) (row J κ s a))

-- b is the base of one of the first n states
abbrev pub used : St → Kind → ℕ → ℕ → Bool
used P κ b zero = false
used P κ b (suc n) = eqb (P.base κ n) b || used P κ b n

abbrev pub try_of : Bool → Job → Kind → ℕ → ℕ → St → Option St
try_of true J κ s b P = none
try_of false J κ s b P = fill J κ s b J.syms (set_base κ s b P)

unfoldable pub try_row : Job → Kind → ℕ → St → ℕ → Option St
try_row J κ s P b = try_of (used P κ b J.states) J κ s b P

abbrev pub row_by : Plan → Job → ℕ → Kind → ℕ → St → Option St
row_by skip J fuel κ s P = some P
row_by (share r) J fuel κ s P = some (set_base κ s (P.base κ r) P)
row_by search J fuel κ s P = first (try_row J κ s P) fuel 1 (try_row J κ s P 1)

unfoldable pub row_step : Job → ℕ → Kind → ℕ → St → Option St
row_step J fuel κ s P = row_by (plan J κ s) J fuel κ s P

-- ---- the turn of s, the states below n, and all: state 0 at cell 0, the targets, the states

unfoldable pub state_step : Job → ℕ → ℕ → St → Option St
state_step J fuel s P = bind (home_step fuel s P) (λ Q. bind (row_step J fuel action s Q) (row_step J fuel goto s))

abbrev pub states_upto : Job → ℕ → ℕ → St → Option St
states_upto J fuel zero P = some P
states_upto J fuel (suc s) P = bind (states_upto J fuel s P) (state_step J fuel s)

-- `fuel` is how far a search goes above 1
unfoldable pub placement : Job → ℕ → Option St
placement J fuel =
    bind (settle (own 0) 0 0 empty) (λ P. bind (targets_upto J (J.syms - J.terms) P) (states_upto J fuel J.states))
