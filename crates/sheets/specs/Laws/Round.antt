-- A written sheet is read back. Assumes nothing.
use Rattle.std.specs.Prelude.{◌≡◌, refl, Bool, true, false, cond, ℕ, ◌+◌, ◌≤◌, leb, eqb, take, List, [], ◌∷◌, ◌++◌, length, drop}
use Rattle.std.proofs.Common.{sym, ap, ◌∙◌, arith, length-append, take_at, drop_at, eq-eqb, eqb-true, leb-true}
use Rattle.std.proofs.lemmas.Bool.{eqb-false}
use Rattle.tables.specs.declared.Sizes.{Sizes}
use Rattle.tables.specs.Said.{Said, OK, SIZE, TEXT}
use Rattle.tables.specs.Size.{signing_fits}
use Rattle.tables.specs.Judgement.{sign_judgement}
use Rattle.sheets.specs.Sheet.{sheet_text}
use Rattle.sheets.specs.Lines.{values, wants, lines_of}
use Rattle.sheets.specs.Outcome.{read_outcome, WriteOutcome, write_outcome, signed_or, told_by, sheet_read, put_or, judged_put, sheet_write}
use Rattle.sheets.specs.Meaning.{Signed}
use Rattle.sheets.specs.Laws.Said.{ok-number, ok-value}
use Rattle.sheets.specs.Laws.Told.{told_back}
use Rattle.sheets.specs.Laws.Wants.{wants-count, wants-text}
use Rattle.sheets.specs.Laws.Signed.{lengths, small-append, rules-small, targets-small, targets-count, start-unsigned}

module _ (z : Sizes) (states : ℕ) (srule sgoto : List ℕ) where
  abbrev text : List ℕ
  text = sheet_text z states srule sgoto

  -- what the lines of the text tell
  text-told : Signed z states srule sgoto → lines_of z states text ≡ values (srule ++ drop 1 sgoto)
  unfolding lines_of
  text-told y =
      let r : length srule ≡ states = (lengths z states srule sgoto y).rules in
      told_back text (wants z states) (srule ++ drop 1 sgoto) 1 0 (omega arith)
      (sym (wants-text z states srule sgoto r (targets-count z states srule sgoto y)))
      (length-append srule (drop 1 sgoto) ∙ ap (λ (n : ℕ). n + length (drop 1 sgoto)) r ∙ ap (λ (n : ℕ). states + n) (targets-count z states srule sgoto y) ∙ sym (wants-count z states))
      (small-append srule (drop 1 sgoto) (rules-small z states srule sgoto y) (targets-small z states srule sgoto y))

  module _ (rules targets : List ℕ) where
    -- values that are the entries of a signing that is not refused
    values-taken : (size : ℕ) (vs : List ℕ) → (sign_judgement z states srule sgoto).number ≡ 0 → take states vs ≡ srule → 0 ∷ drop states vs ≡ sgoto
        → told_by z states size rules targets (values vs) ≡ read_outcome (OK (size ∷ [])) srule sgoto
    unfolding signed_or
    values-taken size vs j e f = rw (e, f, eq-eqb _ _ j)

    pub text-back : Signed z states srule sgoto → signing_fits z states rules targets ≡ true
        → sheet_read z states text rules targets ≡ read_outcome (OK (length text ∷ [])) srule sgoto
    unfolding sheet_read
    text-back y f =
        let r : length srule ≡ states = (lengths z states srule sgoto y).rules in
        rw (f, text-told y)
        (values-taken (length text) (srule ++ drop 1 sgoto) y.judged (take_at srule (drop 1 sgoto) states r)
        (ap (λ (l : List ℕ). 0 ∷ l) (drop_at srule (drop 1 sgoto) states r) ∙ sym (start-unsigned z states srule sgoto y)))

-- ---- what is written

-- the text stands at the front of the buffer
pub record Put (text buffer : List ℕ) (n : ℕ) (after : List ℕ) : Type 0 where
  pub size : n ≡ length text
  pub room : length text ≤ length buffer
  pub front : after ≡ text ++ drop (length text) buffer

put-ok : (text buffer : List ℕ) (n : ℕ) → (put_or text buffer).said ≡ OK (n ∷ []) → Put text buffer n (put_or text buffer).buffer
unfolding put_or
put-ok text buffer n e = by (leb (length text) (length buffer)) refl e
  where
    by : (b : Bool) → leb (length text) (length buffer) ≡ b
        → (cond b (write_outcome (OK (length text ∷ [])) (text ++ drop (length text) buffer)) (write_outcome TEXT buffer)).said ≡ OK (n ∷ [])
        → Put text buffer n (cond b (write_outcome (OK (length text ∷ [])) (text ++ drop (length text) buffer)) (write_outcome TEXT buffer)).buffer
    by true l q = record { size = sym (ok-value q); room = leb-true _ _ l; front = refl }
    by false l q = absurd (let k : ◌≡◌ {A = ℕ} 16 0 = ok-number q in omega arith)

judged-ok : (judged : Said) (text buffer : List ℕ) (n : ℕ) → (judged_put judged text buffer).said ≡ OK (n ∷ [])
    → (judged.number ≡ 0) × (judged_put judged text buffer ≡ put_or text buffer)
unfolding judged_put
judged-ok judged text buffer n e = by (eqb judged.number 0) refl e
  where
    by : (b : Bool) → eqb judged.number 0 ≡ b → (cond b (put_or text buffer) (write_outcome judged buffer)).said ≡ OK (n ∷ [])
        → (judged.number ≡ 0) × (cond b (put_or text buffer) (write_outcome judged buffer) ≡ put_or text buffer)
    by true j q = (eqb-true _ _ j, refl)
    by false j q = absurd (eqb-false _ _ j (ok-number q))

fitting-ok : (fits : Bool) (put : WriteOutcome) (buffer : List ℕ) (n : ℕ) → (cond fits put (write_outcome SIZE buffer)).said ≡ OK (n ∷ [])
    → (fits ≡ true) × (cond fits put (write_outcome SIZE buffer) ≡ put)
fitting-ok true put buffer n e = (refl, refl)
fitting-ok false put buffer n e = absurd (let k : ◌≡◌ {A = ℕ} 1 0 = ok-number e in omega arith)

module _ (z : Sizes) (states : ℕ) (srule sgoto : List ℕ) where
  abbrev judged : Said
  judged = sign_judgement z states srule sgoto

  abbrev whole : List ℕ
  whole = sheet_text z states srule sgoto

  -- where OK is said, the signing was good, and its text stands at the front of the buffer
  pub record Written (buffer : List ℕ) (n : ℕ) : Type 0 where
    pub good : Signed z states srule sgoto
    pub put : Put whole buffer n (sheet_write z states srule sgoto buffer).buffer

  pub written : (buffer : List ℕ) (n : ℕ) → (sheet_write z states srule sgoto buffer).said ≡ OK (n ∷ []) → Written buffer n
  unfolding sheet_write
  written buffer n e =
      let f : (signing_fits z states srule sgoto ≡ true) × _ = fitting-ok (signing_fits z states srule sgoto) (judged_put judged whole buffer) buffer n e in
      let j : (judged.number ≡ 0) × _ = judged-ok judged whole buffer n (rw f.1 at e) in
      let p : sheet_write z states srule sgoto buffer ≡ put_or whole buffer = f.1 ∙ j.1 in
      record { good = record { fits = f.0; judged = j.0 }; put = rw p (put-ok whole buffer n (rw p at e)) }

  -- the first n bytes of what is left are the text
  pub written-text : (buffer : List ℕ) (n : ℕ) → Written buffer n → take n (sheet_write z states srule sgoto buffer).buffer ≡ whole
  written-text buffer n w = ap (take n) w.put.front ∙ take_at whole (drop (length whole) buffer) n (sym w.put.size)
