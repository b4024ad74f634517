-- Packing as a whole: what is said, and what the four arrays hold then.
use Rattle.std.specs.Prelude.{Ok, Err, ℕ, zero, suc, Bool, cond, ◌&&◌, List, [], ◌∷◌, eqb, ℤ, length, get_or}
use Rattle.std.specs.Prelude.{Result as Outcome}
use Rattle.std.proofs.Math.Option.{Option, none, some}
use Rattle.tables.specs.declared.Sizes.{Sizes}
use Rattle.tables.specs.Said.{Said, OK, SIZE, NOROOM}
use Rattle.tables.specs.Judgement.{judgement, refused as judged_refused}
use Rattle.cells.specs.Read.{twice}
use Rattle.cells.specs.Size.{cells_fit}
use Rattle.packing.specs.declared.PackRefusal.{PackRefusal}
use Rattle.packing.specs.declared.PackRefusal.TheVariants.{Judged, NoRoom}
use Rattle.packing.specs.Packed.{bound}
use Rattle.packing.specs.Bench.{Bench, placement_b}
use Rattle.packing.specs.Job.{job_of}
use Rattle.packing.specs.Turns.{wiped}

-- the number and the values of each refusal
abbrev pub refused : PackRefusal → Said
refused (Judged r) = judged_refused r
refused NoRoom = NOROOM

-- the count, or the refusal
abbrev pub said_of : Outcome ℕ PackRefusal → Said
said_of (Ok n) = OK (n ∷ [])
said_of (Err e) = refused e

-- what is said, with the arrays
pub record Result : Type 0 where
  pub said : Said
  pub arrays : Bench

abbrev pub packing_result : Said → Bench → Result
packing_result q A = record { said = q; arrays = A }

-- W 2..65,536; Check and marks have W elements, the place list L
unfoldable pub arrays_fit : ℕ → Bench → Bool
arrays_fit states A =
    cells_fit A.bases A.checks && (eqb (length A.marks) (length A.bases) && eqb (length A.places) states)

-- the highest taken cell below n, plus 1
abbrev pub count_upto : List ℕ → ℕ → ℕ
count_upto marks zero = 0
count_upto marks (suc n) = cond (eqb (get_or marks n 0) 0) (count_upto marks n) (suc n)

-- the highest taken cell plus 1
unfoldable pub count_of : List ℕ → ℕ
count_of marks = count_upto marks (length marks)

-- NOROOM leaves 0 everywhere
abbrev pub placed_by : Option Bench → Bench → Result
placed_by none A = packing_result NOROOM (wiped 0 A)
placed_by (some B) A = packing_result (OK (count_of B.marks ∷ [])) B

-- a refusal leaves the arrays unchanged
abbrev pub judged_by : Said → Option Bench → Bench → Result
judged_by q o A = cond (eqb q.number 0) (placed_by o A) (packing_result q A)

-- SIZE of everything, then GRAMMAR, ENTRY and SIGN, then NOROOM, else OK with the count
unfoldable pub packed : Sizes → ℕ → List ℕ → List ℕ → List ℕ → List ℤ → List ℕ → List ℕ → Bench → Result
packed z states left lens rights table srule sgoto A =
    cond (arrays_fit states A)
    (judged_by (judgement z states left lens rights table srule sgoto)
    (placement_b (job_of twice z states table srule sgoto) (length A.bases) (bound (job_of twice z states table srule sgoto))) A)
    (packing_result SIZE A)
