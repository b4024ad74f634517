-- A text that is read is the one text of what it means. Assumes nothing.
use Rattle.std.specs.Prelude.{◌≡◌, refl, Bool, List, [], ◌∷◌, ℕ, ◌+◌, ◌-◌, ◌≤◌, eqb, take, true, false, cond, length, drop}
use Rattle.std.proofs.Common.{ap, sym, ◌∙◌, take-append-drop, eqb-true, arith, length-drop, length-take-le}
use Rattle.std.proofs.lemmas.Bool.{eqb-false}
use Rattle.tables.specs.declared.Sizes.{Sizes}
use Rattle.tables.specs.Said.{Said, OK, SIZE}
use Rattle.tables.specs.Size.{signing_fits}
use Rattle.tables.specs.Judgement.{sign_judgement}
use Rattle.tables.specs.Laws.Size.{SigningFits, signing_fits_lem, fit-signing}
use Rattle.sheets.specs.Sheet.{sheet_text}
use Rattle.sheets.specs.Lines.{Told, values, bad_line, wants, lines_of}
use Rattle.sheets.specs.Outcome.{ReadOutcome, read_outcome, signed_or, told_by, sheet_read}
use Rattle.sheets.specs.Meaning.{Meaning}
use Rattle.sheets.specs.Laws.Said.{ok-number, ok-value}
use Rattle.sheets.specs.Laws.Told.{text_of, Spelled, told-only}
use Rattle.sheets.specs.Laws.Wants.{wants-count, wants-text}

-- a signing that was read took the place of the old one
record Taken (j : Said) (k n : ℕ) (r t srule sgoto : List ℕ) : Type 0 where
  pub accepted : j.number ≡ 0
  pub size : k ≡ n
  pub rules : r ≡ srule
  pub targets : t ≡ sgoto

taken : (judged : Said) (size n : ℕ) (rules targets rules₀ targets₀ srule sgoto : List ℕ)
    → signed_or judged size rules targets rules₀ targets₀ ≡ read_outcome (OK (n ∷ [])) srule sgoto → Taken judged size n rules targets srule sgoto
unfolding signed_or
taken judged size n rules targets rules₀ targets₀ srule sgoto e = by (eqb judged.number 0) refl e
  where
    by : (b : Bool) → eqb judged.number 0 ≡ b
        → cond b (read_outcome (OK (size ∷ [])) rules targets) (read_outcome judged rules₀ targets₀) ≡ read_outcome (OK (n ∷ [])) srule sgoto
        → Taken judged size n rules targets srule sgoto
    by true j q =
        record {
          accepted = eqb-true _ _ j;
          size = ok-value (ap (λ (o : ReadOutcome). o.said) q);
          rules = ap (λ (o : ReadOutcome). o.srule) q;
          targets = ap (λ (o : ReadOutcome). o.sgoto) q;
        }
    by false j q = absurd (eqb-false _ _ j (ok-number (ap (λ (o : ReadOutcome). o.said) q)))

module _ (z : Sizes) (states : ℕ) (text : List ℕ) where
  -- the values of the lines are a signing of the right lengths, and the text is its text
  values-only : (rules₀ targets₀ : List ℕ) → SigningFits z states rules₀ targets₀ → (vs : List ℕ) → lines_of z states text ≡ values vs
      → (signing_fits z states (take states vs) (0 ∷ drop states vs) ≡ true) × (text ≡ sheet_text z states (take states vs) (0 ∷ drop states vs))
  unfolding lines_of
  values-only rules₀ targets₀ k vs e =
      let s : Spelled text (wants z states) 0 vs = told-only text (wants z states) vs 1 0 e in
      let n : length vs ≡ states + (z.symbols - z.terminals - 1) = s.count ∙ wants-count z states in
      let m : z.terminals + 2 ≤ z.symbols = k.numbers.symbols.least in
      let r : length (take states vs) ≡ states = length-take-le states vs (omega arith) in
      let d : length (drop states vs) ≡ z.symbols - z.terminals - 1 = length-drop states vs ∙ (let q : length vs - states ≡ z.symbols - z.terminals - 1 = omega arith in q) in (
        fit-signing z states (take states vs) (0 ∷ drop states vs) (record { numbers = k.numbers; count = k.count; rules = r; targets = omega arith }),
        s.here ∙ ap (text_of (wants z states)) (sym (take-append-drop states vs)) ∙ wants-text z states (take states vs) (0 ∷ drop states vs) r d,
      )

  module _ (rules₀ targets₀ : List ℕ) (n : ℕ) (srule sgoto : List ℕ) where
    told-by-only : SigningFits z states rules₀ targets₀ → (t : Told) → lines_of z states text ≡ t
        → told_by z states (length text) rules₀ targets₀ t ≡ read_outcome (OK (n ∷ [])) srule sgoto → Meaning z states text n srule sgoto
    told-by-only k (bad_line m) e q = absurd (let c : ◌≡◌ {A = ℕ} 15 0 = ok-number (ap (λ (o : ReadOutcome). o.said) q) in omega arith)
    told-by-only k (values vs) e q =
        let v : (signing_fits z states (take states vs) (0 ∷ drop states vs) ≡ true) × _ = values-only rules₀ targets₀ k vs e in
        let t : Taken (sign_judgement z states (take states vs) (0 ∷ drop states vs)) (length text) n (take states vs) (0 ∷ drop states vs) srule sgoto =
        taken _ (length text) n (take states vs) (0 ∷ drop states vs) rules₀ targets₀ srule sgoto q in
        rw (← t.rules, ← t.targets) (record { good = record { fits = v.0; judged = t.accepted }; same = v.1; size = sym t.size })

    pub read_only : sheet_read z states text rules₀ targets₀ ≡ read_outcome (OK (n ∷ [])) srule sgoto → Meaning z states text n srule sgoto
    unfolding sheet_read
    read_only e = by (signing_fits z states rules₀ targets₀) refl e
      where
        by : (b : Bool) → signing_fits z states rules₀ targets₀ ≡ b
            → cond b (told_by z states (length text) rules₀ targets₀ (lines_of z states text)) (read_outcome SIZE rules₀ targets₀) ≡ read_outcome (OK (n ∷ [])) srule sgoto
            → Meaning z states text n srule sgoto
        by true f q = told-by-only (signing_fits_lem z states rules₀ targets₀ f) (lines_of z states text) refl q
        by false f q = absurd (let c : ◌≡◌ {A = ℕ} 1 0 = ok-number (ap (λ (o : ReadOutcome). o.said) q) in omega arith)
