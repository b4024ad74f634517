-- What is promised of packed cells, with the filled table and the place list beside them.
use Rattle.std.specs.Prelude.{◌≡◌, Option, Some, None, ℕ, suc, ◌-◌, ◌≤◌, ◌<◌, List, length, get_or}
use Rattle.std.proofs.Math.Option.{none, some}
use Rattle.tables.specs.declared.Action.{Action}
use Rattle.tables.specs.declared.Action.TheVariants as action
use Rattle.reads.specs.declared.Way.{Way}
use Rattle.reads.specs.declared.Read.{Read}
use Rattle.reads.specs.declared.Read.TheVariants.{Shift, Reduce, Accept, Blank}
use Rattle.reads.specs.Read.{way_cell}
use Rattle.packing.specs.Job.{Job}
use Rattle.packing.specs.Packed.{Packed, bound, pack}

-- the read is a shift to the state at cell y, directly or through a pointer
abbrev pub ShiftsTo : Option Read → ℕ → Type 0
ShiftsTo r y = (w : Way) × (way_cell w ≡ y) × (r ≡ Some (Shift w))

-- the read says what the filled table says of a terminal, with a shift's state carried to its cell by the place list
abbrev pub Carries : List ℕ → Option Read → Action → Type 0
Carries places r action.Blank = r ≡ Some Blank
Carries places r (action.Shift t) = ShiftsTo r (get_or places t 0)
Carries places r (action.Reduce q) = r ≡ Some (Reduce q)
Carries places r action.Accept = r ≡ Some Accept

-- likewise of a nonterminal
abbrev pub CarriesGoto : List ℕ → Option Read → Option ℕ → Type 0
CarriesGoto places r None = r ≡ Some Blank
CarriesGoto places r (Some t) = ShiftsTo r (get_or places t 0)

-- n is the highest taken cell plus 1: cell n - 1 is taken, and none from n on
pub record IsCount (marks : List ℕ) (n : ℕ) : Type 0 where
  pub some-cell : 1 ≤ n
  pub taken : get_or marks (n - 1) 0 ≡ 1
  pub free-above : (c : ℕ) → n ≤ c → get_or marks c 0 ≡ 0

-- state 0 stands at cell 0, each state stands at a cell whose attached cell is inside, and no two stand at the same
pub record Housed (W states : ℕ) (places : List ℕ) : Type 0 where
  pub start : get_or places 0 0 ≡ 0
  pub inside : (s : ℕ) → s < states → suc (get_or places s 0) < W
  pub apart : (s r : ℕ) → s < states → r < states → get_or places s 0 ≡ get_or places r 0 → s ≡ r

-- the arrays Base, Check and marks have W elements each, the place list has L
pub record Sized (W states : ℕ) (A : Packed) : Type 0 where
  pub bases : length A.bases ≡ W
  pub checks : length A.checks ≡ W
  pub marks : length A.marks ≡ W
  pub places : length A.places ≡ states

-- packing takes `cells` cells, at most the bound: it succeeds exactly where W is at least that, and then counts them
pub record Room (J : Job) : Type 0 where
  pub cells : ℕ
  pub bounded : cells ≤ bound J
  pub enough : (W : ℕ) → cells ≤ W → (A : Packed) × (pack J W ≡ some A) × (A.count ≡ cells)
  pub too_few : (W : ℕ) → W < cells → pack J W ≡ none
