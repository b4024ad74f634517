-- What packing says is a number up to 5; where it says OK there are no more cells than were lent, and small numbers in them. Assumes nothing.
use Rattle.std.specs.Prelude.{◌≡◌, refl, Bool, cond, List, ℕ, zero, suc, ◌+◌, ◌*◌, ◌≤◌, ℤ, pos, length, get_or, true, false, eqb}
use Rattle.std.proofs.Common.{◌∙◌, eqb-true, arith}
use Rattle.std.proofs.Math.Option.{Option, none, some}
use Rattle.std.proofs.lemmas.Bool.{eqb-false}
use Rattle.tables.specs.declared.Sizes.{Sizes}
use Rattle.tables.specs.Said.{Said, SIZE}
use Rattle.tables.specs.Judgement.{judgement}
use Rattle.tables.specs.Laws.Size.{SigningFits, signing_fits_lem}
use Rattle.tables.specs.Laws.Numbers.{judged-low}
use Rattle.cells.specs.Read.{Kind, twice}
use Rattle.packing.specs.Job.{rule, Job, job_of}
use Rattle.packing.specs.Rows.{row}
use Rattle.packing.specs.Bench.{Bench, placement_b}
use Rattle.packing.specs.Packed.{bound}
use Rattle.packing.specs.Turns.{Ready}
use Rattle.packing.specs.Packing.{Result, packing_result, arrays_fit, count_upto, count_of, placed_by, packed}
use Rattle.packing.specs.Laws.Rows.{row-entry}
use Rattle.packing.specs.Laws.Ready.{tame, tame-rules}
use Rattle.packing.specs.Laws.Packing.{ready}
use Rattle.packing.specs.Laws.Stored.{size, Bounds, StoredIf, placement-low}

-- ---- the count

upto-low : (marks : List ℕ) (n : ℕ) → count_upto marks n ≤ n
upto-low marks zero = omega arith
upto-low marks (suc n) = by (eqb (get_or marks n 0) 0) (upto-low marks n)
  where
    by : (q : Bool) → count_upto marks n ≤ n → cond q (count_upto marks n) (suc n) ≤ suc n
    by true h = omega arith
    by false h = omega arith

count_low : (marks : List ℕ) → count_of marks ≤ length marks
unfolding count_of
count_low marks = upto-low marks (length marks)

-- ---- a written rule is a rule of the table

written-rule : (J : Job) (κ : Kind) (s a r : ℕ) → row J κ s a ≡ rule r → J.entry s a ≡ rule r
written-rule J κ s a r h = row-entry J κ s a (λ e. let z : ◌≡◌ {A = ℕ} 0 1 = cc in omega arith) ∙ h

-- ---- a result

-- the count is at most W, and the numbers in Base and Check are at most N
pub record Held (N W : ℕ) (r : Result) : Type 0 where
  pub count : get_or r.said.values 0 0 ≤ W
  pub bases : (c : ℕ) → size (get_or r.arrays.bases c (pos 0)) ≤ N
  pub checks : (c : ℕ) → size (get_or r.arrays.checks c (pos 0)) ≤ N

placed-number : (o : Option Bench) (A : Bench) → (placed_by o A).said.number ≤ 5
placed-number none A = omega arith
placed-number (some B) A = omega arith

placed-held : (N W rules : ℕ) (o : Option Bench) (A : Bench) → StoredIf N W rules o → (placed_by o A).said.number ≡ 0 → Held N W (placed_by o A)
placed-held N W rules none A l h = absurd (let z : ◌≡◌ {A = ℕ} 5 0 = h in omega arith)
placed-held N W rules (some B) A l h =
    record { count = omega (arith, count_low B.marks, l.marks); bases = l.bases; checks = l.checks }

module _ (z : Sizes) (states : ℕ) (left lens rights : List ℕ) (table : List ℤ) (srule sgoto : List ℕ) where
  -- the table with this signing, as packing takes it
  abbrev job : Job
  job = job_of twice z states table srule sgoto

  -- what the judgement says
  abbrev judge : Said
  judge = judgement z states left lens rights table srule sgoto

  module _ (A : Bench) where
    -- the arrays that placement leaves, if there was room
    abbrev placed : Option Bench
    placed = placement_b job (length A.bases) (bound job)

    -- the number is at most 5
    pub packed-low : (packed z states left lens rights table srule sgoto A).said.number ≤ 5
    unfolding packed
    packed-low = by (arrays_fit states A) (eqb judge.number 0)
      where
        by : (b d : Bool) → (cond b (cond d (placed_by placed A) (packing_result judge A)) (packing_result SIZE A)).said.number ≤ 5
        by true true = placed-number placed A
        by true false = omega (arith, judged-low z states left lens rights table srule sgoto)
        by false d = omega arith

    -- N is above every base that is tried, and above every rule
    module _ (N : ℕ) (tried : 1 + (2 * z.symbols + states * (4 * z.symbols + 4)) + 2 * z.symbols + z.rules ≤ N) (ruled : 1024 ≤ N) where
      bounds : Ready z states table srule sgoto → Bounds job (bound job) N
      unfolding job_of bound
      bounds y =
          record {
            searched = tried;
            written = λ κ s a r h. omega (arith, tame-rules z states table srule sgoto y s a r (written-rule job κ s a r h));
            signed = λ s. omega (arith, (tame z states table srule sgoto y).signs s);
            targets = λ x. omega arith;
          }

      placed-low : judge.number ≡ 0 → StoredIf N (length A.bases) z.rules placed
      unfolding job_of
      placed-low e =
          let y : Ready z states table srule sgoto = ready z states left lens rights table srule sgoto e in
          let f : SigningFits z states srule sgoto = signing_fits_lem z states srule sgoto y.sizes in
          placement-low job (length A.bases) (bound job) N (bounds y) (omega (arith, f.numbers.symbols.least))

      -- where OK is said, no number is above N
      pub packed-held : (packed z states left lens rights table srule sgoto A).said.number ≡ 0 → Held N (length A.bases) (packed z states left lens rights table srule sgoto A)
      unfolding packed
      packed-held = by (arrays_fit states A) (eqb judge.number 0) refl
        where
          by : (b d : Bool) → eqb judge.number 0 ≡ d → (cond b (cond d (placed_by placed A) (packing_result judge A)) (packing_result SIZE A)).said.number ≡ 0
              → Held N (length A.bases) (cond b (cond d (placed_by placed A) (packing_result judge A)) (packing_result SIZE A))
          by true true e h = placed-held N (length A.bases) z.rules placed A (placed-low (eqb-true judge.number 0 e)) h
          by true false e h = absurd (eqb-false judge.number 0 e h)
          by false d e h = absurd (let k : ◌≡◌ {A = ℕ} 1 0 = h in omega arith)
