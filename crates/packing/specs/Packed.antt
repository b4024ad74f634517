-- What packing answers: the board as arrays, with the count; or NOROOM.
use Rattle.std.specs.Prelude.{ℕ, zero, suc, ◌+◌, ◌*◌, cond, List, [], ◌∷◌, leb, eqb, ℤ, pos}
use Rattle.std.proofs.Math.Option.{Option, none, some}
use Rattle.cells.specs.Read.{action, goto}
use Rattle.packing.specs.Job.{Act, blank, shift, rule, Job, neg, sign_check}
use Rattle.packing.specs.Rows.{row}
use Rattle.packing.specs.Board.{Owner, free, own, att, ent, dflt, St, is_free, placement}
use Rattle.packing.specs.Bench.{Bench}

-- ---- a cell of the board

abbrev pub place_of : Option ℕ → ℕ
place_of none = 0
place_of (some x) = x

-- a shift to t, of the cell c: t's action base if t stands at c, else a pointer, -(G + cell)
abbrev pub shift_base : Job → St → ℕ → ℕ → Option ℕ → ℤ
shift_base J P c t none = pos 0
shift_base J P c t (some x) = cond (eqb x c) (pos (P.base action t)) (neg (J.rules + x))

abbrev pub act_base : Job → St → ℕ → Act → ℤ
act_base J P c blank = pos 0
act_base J P c (rule r) = neg r
act_base J P c (shift t) = shift_base J P c t (P.place t)

-- Base of the cell c with this owner
abbrev pub base_of : Job → St → ℕ → Owner → ℤ
base_of J P c free = pos 0
base_of J P c (own s) = pos (P.base action s)
base_of J P c (att s) = pos (P.base goto s)
base_of J P c (ent κ s a) = act_base J P c (row J κ s a)
base_of J P c (dflt A) = pos (P.base action (J.gsig A))

-- Check of a cell with this owner: a placed entry's symbol, -r or M for an attached cell, else the empty mark M
abbrev pub check_of : Job → Owner → ℤ
check_of J free = pos J.syms
check_of J (own s) = pos J.syms
check_of J (att s) = sign_check J (J.ssig s)
check_of J (ent κ s a) = pos a
check_of J (dflt A) = pos A

unfoldable pub base_at : Job → St → ℕ → ℤ
base_at J P c = base_of J P c (P.owner c)

unfoldable pub check_at : Job → St → ℕ → ℤ
check_at J P c = check_of J (P.owner c)

abbrev pub mark_at : St → ℕ → ℕ
mark_at P c = cond (is_free (P.owner c)) 0 1

-- ---- all of it

-- f i, f (i + 1), .., n of them
abbrev pub tabulate {ℓ} : {X : Type ℓ} → (ℕ → X) → ℕ → ℕ → List X
tabulate f zero i = []
tabulate f (suc n) i = f i ∷ tabulate f n (suc i)

pub record Packed : Type 0 where
  pub bases : List ℤ
  pub checks : List ℤ
  pub marks : List ℕ
  pub places : List ℕ
  pub count : ℕ

unfoldable pub arrays : Job → ℕ → St → Packed
arrays J W P =
    record {
      bases = tabulate (base_at J P) W 0;
      checks = tabulate (check_at J P) W 0;
      marks = tabulate (mark_at P) W 0;
      places = tabulate (λ s. place_of (P.place s)) J.states 0;
      count = P.top;
    }

-- placement would take a cell W or above: NOROOM
abbrev pub fits : Job → ℕ → Option St → Option Packed
fits J W none = none
fits J W (some P) = cond (leb P.top W) (some (arrays J W P)) none

-- 2M + L(4M + 4): no base and no cell above it is ever needed
unfoldable pub bound : Job → ℕ
bound J = 2 * J.syms + J.states * (4 * J.syms + 4)

-- packing into W cells; none is NOROOM
unfoldable pub pack : Job → ℕ → Option Packed
pack J W = fits J W (placement J (bound J))

-- the four arrays of what is packed
abbrev pub bench_of : Option Packed → Option Bench
bench_of none = none
bench_of (some A) = some (record { bases = A.bases; checks = A.checks; marks = A.marks; places = A.places })
