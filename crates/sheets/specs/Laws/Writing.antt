-- What the writer leaves, told by the judgement, by the length of the text and by the bytes that were put. Assumes nothing.
use Rattle.std.specs.Prelude.{◌≡◌, Bool, List, [], ◌∷◌, ◌++◌, ℕ, ◌+◌, ◌≤◌, ◌<◌, refl, true, false, length, drop}
use Rattle.std.proofs.Common.{ap, ◌∙◌, arith, le-leb, ne_eqb}
use Rattle.std.proofs.Math.Seq.{sets, sets-eq}
use Rattle.std.proofs.lemmas.Bool.{lt-leb}
use Rattle.tables.specs.declared.Sizes.{Sizes}
use Rattle.tables.specs.Said.{Said, OK, TEXT}
use Rattle.tables.specs.Size.{signing_fits}
use Rattle.tables.specs.Judgement.{signing_judgement}
use Rattle.tables.specs.Laws.Numbers.{signing-size, signing-sign, signing-zero}
use Rattle.sheets.specs.Sheet.{sheet_text}
use Rattle.sheets.specs.Outcome.{write_outcome, put_or, judged_put, sheet_write}
use Rattle.sheets.specs.Meaning.{Signed}
use Rattle.sheets.specs.Emit.{Emitted}

-- the length of the text was counted on another buffer
module _ (text buffer : List ℕ) {none last : List ℕ} {size : ℕ} (counted : Emitted none 0 text size last) where
  pub too_long : length buffer < size → write_outcome TEXT buffer ≡ put_or text buffer
  unfolding put_or
  too_long h = rw (lt-leb (length text) (length buffer) (omega (arith, counted.place)))

  -- the bytes of the text stand at the front
  pub put_front : {n : ℕ} {after : List ℕ} → size ≤ length buffer → Emitted buffer 0 text n after → write_outcome (OK (n ∷ [])) after ≡ put_or text buffer
  unfolding put_or
  put_front {n} {after} h e =
      let z : 0 + length text ≡ length text = omega arith in
      let l : length text ≤ length buffer = omega (arith, counted.place) in
      let s : sets buffer 0 text ≡ text ++ drop (length text) buffer = sets-eq text buffer 0 (omega arith) ∙ ap (λ (k : ℕ). text ++ drop k buffer) z in
      rw (le-leb _ _ l, e.place, z, e.stored, s)

module _ (z : Sizes) (states : ℕ) (srule sgoto : List ℕ) where
  -- SIZE and SIGN are one judgement
  write-judged : (buffer : List ℕ) → judged_put (signing_judgement z states srule sgoto) (sheet_text z states srule sgoto) buffer ≡ sheet_write z states srule sgoto buffer
  unfolding sheet_write judged_put
  write-judged buffer = by (signing_fits z states srule sgoto) refl
    where
      by : (b : Bool) → signing_fits z states srule sgoto ≡ b
          → judged_put (signing_judgement z states srule sgoto) (sheet_text z states srule sgoto) buffer ≡ sheet_write z states srule sgoto buffer
      by true f = rw (f, signing-sign z states srule sgoto f)
      by false f = rw (f, signing-size z states srule sgoto f)

  -- what it refuses is said, and nothing is written
  pub refused-written : (q : Said) (buffer : List ℕ) → q ≡ signing_judgement z states srule sgoto → (q.number ≡ 0 → ⊥) → write_outcome q buffer ≡ sheet_write z states srule sgoto buffer
  unfolding judged_put
  refused-written q buffer e n = rw (← write-judged buffer, ← e, ne_eqb q.number 0 n)

  -- what it does not refuse is written, if there is room
  pub good-written : (buffer : List ℕ) → signing_judgement z states srule sgoto ≡ OK [] → put_or (sheet_text z states srule sgoto) buffer ≡ sheet_write z states srule sgoto buffer
  unfolding judged_put
  good-written buffer e = rw (← write-judged buffer, e)

  -- where it says OK, the sizes fit and SIGN refuses nothing
  pub judged-signed : signing_judgement z states srule sgoto ≡ OK [] → Signed z states srule sgoto
  judged-signed e =
      let p = signing-zero z states srule sgoto (ap (λ (s : Said). s.number) e) in
      record { fits = p.0; judged = p.1 }
