-- The parts of packing, put together. Assumes nothing.
use Rattle.std.specs.Prelude.{◌≡◌, true, false, List, [], ℕ, eqb, ℤ, length, refl, ◌≤◌}
use Rattle.std.proofs.Common.{sym, ◌∙◌, eqb-true}
use Rattle.std.proofs.Math.Option.{Option, none}
use Rattle.tables.specs.declared.Sizes.{Sizes}
use Rattle.tables.specs.Said.{Said, OK, SIZE, NOROOM}
use Rattle.tables.specs.declared.Refusal.{Refusal}
use Rattle.tables.specs.declared.Refusal.TheVariants.{Size, Grammar, Entry, State, Nonterminal}
use Rattle.tables.specs.Judgement.{judgement, refused as judged_refused}
use Rattle.tables.specs.Laws.Tests.{and-true}
use Rattle.tables.specs.Laws.Size.{all_fit_lem}
use Rattle.tables.specs.Laws.Numbers.{judged-zero}
use Rattle.cells.specs.Read.{twice}
use Rattle.cells.specs.Size.{cells_fit}
use Rattle.cells.specs.Laws.Size.{cells_fit_lem}
use Rattle.packing.specs.Packed.{bound}
use Rattle.packing.specs.Bench.{Bench, placement_b}
use Rattle.packing.specs.Job.{job_of}
use Rattle.packing.specs.Turns.{Sized, Ready, wiped}
use Rattle.packing.specs.Packing.{packing_result, arrays_fit, placed_by, packed}

-- ---- the judgement

-- a refusal is no OK
refused_by : (r : Refusal) → eqb (judged_refused r).number 0 ≡ false
refused_by Size = refl
refused_by (Grammar i) = refl
refused_by (Entry i) = refl
refused_by (State s) = refl
refused_by (Nonterminal x) = refl

module _ (z : Sizes) (states : ℕ) (left lens rights : List ℕ) (table : List ℤ) (srule sgoto : List ℕ) where
  pub ready : (judgement z states left lens rights table srule sgoto).number ≡ 0 → Ready z states table srule sgoto
  ready e =
      let u = judged-zero z states left lens rights table srule sgoto e in
      record { sizes = (all_fit_lem z states left lens rights table srule sgoto u.fit).signing; entries = u.entries; rules = u.signatures }

  module _ (A : Bench) where
    pub refused-size : arrays_fit states A ≡ false → packing_result SIZE A ≡ packed z states left lens rights table srule sgoto A
    unfolding packed
    refused-size e = rw e refl

    module _ (fit : arrays_fit states A ≡ true) where
      pub refused-judged : (r : Refusal) → judged_refused r ≡ judgement z states left lens rights table srule sgoto
          → packing_result (judged_refused r) A ≡ packed z states left lens rights table srule sgoto A
      unfolding packed
      refused-judged r e = rw (fit, ← e, refused_by r) refl

      pub accepted : (x : Said) (B : Bench) → OK [] ≡ judgement z states left lens rights table srule sgoto
          → packing_result x B ≡ placed_by (placement_b (job_of twice z states table srule sgoto) (length A.bases) (bound (job_of twice z states table srule sgoto))) A
          → packing_result x B ≡ packed z states left lens rights table srule sgoto A
      unfolding packed
      accepted x B e p = p ∙ sym (rw (fit, ← e) refl)

-- ---- sizes

pub sized : (states : ℕ) (A : Bench) → arrays_fit states A ≡ true → Sized states A
unfolding arrays_fit
sized states A e =
    let p : (cells_fit A.bases A.checks ≡ true) × _ = and-true (cells_fit A.bases A.checks) e in
    let q : (eqb (length A.marks) (length A.bases) ≡ true) × _ = and-true (eqb (length A.marks) (length A.bases)) p.1 in
    let f = cells_fit_lem A.bases A.checks p.0 in
    record { checks = f.same; marks = eqb-true _ _ q.0; places = eqb-true _ _ q.1 }

-- cells that fit are at most 65,536
pub cells-most : (states : ℕ) (A : Bench) → arrays_fit states A ≡ true → length A.bases ≤ 65536
unfolding arrays_fit
cells-most states A e = (cells_fit_lem A.bases A.checks (and-true (cells_fit A.bases A.checks) e).0).most

-- ---- placement

-- arrays of the same sizes are wiped to the same
pub no_room : (A B C : Bench) (o : Option Bench) → none ≡ o → C ≡ wiped 0 B
    → length B.bases ≡ length A.bases → length B.checks ≡ length A.checks → length B.marks ≡ length A.marks → length B.places ≡ length A.places
    → packing_result NOROOM C ≡ placed_by o A
unfolding wiped
no_room A B C o e w p q r s = rw (← e, w, p, q, r, s) refl
