-- What reading says, from the walk of the sheet. Assumes nothing.
use Rattle.std.specs.Prelude.{◌≡◌, refl, Bool, true, false, cond, Ok, Err, List, [], ◌∷◌, ◌++◌, ℕ, ◌+◌, ◌-◌, ◌≤◌, eqb, length, get_or, take, drop, replicate}
use Rattle.std.proofs.Common.{sym, ap, ◌∙◌, arith, eqb-true, append-nil, length-take-le, length-drop, drop_of_length-le, take-suc}
use Rattle.std.proofs.lemmas.List.{length-replicate}
use Rattle.std.proofs.Math.Seq.{take-append_seam, drop-append_seam}
use Rattle.tables.specs.declared.Sizes.{Sizes}
use Rattle.tables.specs.Said.{LINE}
use Rattle.tables.specs.Size.{signing_fits}
use Rattle.tables.specs.Judgement.{sign_judgement}
use Rattle.tables.specs.Laws.Size.{SigningFits, signing_fits_lem, fit-signing}
use Rattle.sheets.specs.declared.BadLine.{BadLine}
use Rattle.sheets.specs.Sheet.{state_key, goto_key, header}
use Rattle.sheets.specs.Lines.{lines_of}
use Rattle.sheets.specs.Outcome.{read_outcome, signed_or, told_by}
use Rattle.sheets.specs.Walk.{Lines, bad, exact_from, end_at, entries_from, Scanned, scanned, ended, aimed, ruled, scan_of}
use Rattle.sheets.specs.Laws.Lines.{told_of, scan-told}

-- ---- a walk that ends well ends where the text does

end-place : (text : List ℕ) (n at : ℕ) {p : ℕ} → end_at text n at ≡ Ok p → p ≡ length text
unfolding end_at
end-place text n at {p} e = by (eqb at (length text)) refl e
  where
    by : (b : Bool) → eqb at (length text) ≡ b → cond b (Ok at) (bad n) ≡ Ok p → p ≡ length text
    by true d e = let s : at ≡ p = cc in omega (arith, s, eqb-true at (length text) d)
    by false d e = let c : ◌≡◌ {A = ℕ} 0 1 = cc in absurd (omega arith)

module _ (z : Sizes) (text : List ℕ) {p : ℕ} where
  ended-place : (n : ℕ) (rules targets : List ℕ) (e : Lines) → (ended text n rules targets e).ends ≡ Ok p → p ≡ length text
  ended-place n rules targets (Err b) q = let c : ◌≡◌ {A = ℕ} 0 1 = cc in absurd (omega arith)
  ended-place n rules targets (Ok at) q = end-place text n at q

  aimed-place : (n : ℕ) (rules targets : List ℕ) (e : Lines) → (aimed z n text rules targets e).ends ≡ Ok p → p ≡ length text
  aimed-place n rules targets (Err b) q = let c : ◌≡◌ {A = ℕ} 0 1 = cc in absurd (omega arith)
  aimed-place n rules targets (Ok at) q =
      ended-place (n + length targets) rules
      (entries_from text goto_key (z.terminals + 1) n at targets).values
      (entries_from text goto_key (z.terminals + 1) n at targets).ends
      q

  ruled-place : (states : ℕ) (rules targets : List ℕ) (e : Lines) → (ruled z states text rules targets e).ends ≡ Ok p → p ≡ length text
  ruled-place states rules targets (Err b) q = let c : ◌≡◌ {A = ℕ} 0 1 = cc in absurd (omega arith)
  ruled-place states rules targets (Ok at) q =
      aimed-place (6 + states) (entries_from text state_key 0 6 at rules).values targets (entries_from text state_key 0 6 at rules).ends q

  scan-place : (states : ℕ) (rules targets : List ℕ) → (scan_of z states text rules targets).ends ≡ Ok p → p ≡ length text
  unfolding scan_of
  scan-place states rules targets q = ruled-place states rules targets (exact_from text (header z states) 1 0) q

-- ---- what is said of the walk

module _ (z : Sizes) (states : ℕ) (text srule sgoto before after : List ℕ)
    (l : length before ≡ states) (n : length after ≡ z.symbols - z.terminals - 1) where
  -- what the lines of the text tell
  tells : (s : Scanned) → s ≡ scan_of z states text before after → lines_of z states text ≡ told_of s
  tells s e = rw (e, ← l) (scan-told z text before after n)

  pub read-bad : (m : ℕ) (rules targets : List ℕ) → scanned (bad m) rules targets ≡ scan_of z states text before after
      → read_outcome (LINE m) srule sgoto ≡ told_by z states (length text) srule sgoto (lines_of z states text)
  read-bad m rules targets e = rw (tells (scanned (bad m) rules targets) e)

  pub read-good : (size : ℕ) (rules targets : List ℕ) → length rules ≡ states → scanned (Ok size) rules targets ≡ scan_of z states text before after
      → signed_or (sign_judgement z states rules (0 ∷ targets)) size rules (0 ∷ targets) srule sgoto
      ≡ told_by z states (length text) srule sgoto (lines_of z states text)
  read-good size rules targets k e =
      let p : size ≡ length text = scan-place z text states before after (ap (λ (s : Scanned). s.ends) (sym e)) in
      rw (tells (scanned (Ok size) rules targets) e, ← p, ← k, take-append_seam rules targets, drop-append_seam rules targets)

-- ---- as code reads

-- a signing fits that has room in these arrays
module _ (z : Sizes) (states : ℕ) (srule sgoto : List ℕ) (f : signing_fits z states srule sgoto ≡ true) where
  pub rules_room : length srule ≤ 1024
  rules_room = let k = signing_fits_lem z states srule sgoto f in omega (arith, k.rules, k.count.most)

  pub targets_room : length sgoto ≤ 512
  targets_room = let k = signing_fits_lem z states srule sgoto f in omega (arith, k.targets, k.numbers.symbols.most)

-- the front of zeros has its length
pub zeros-front : (n l : ℕ) → l ≤ n → length {A = ℕ} (take l (replicate n 0)) ≡ l
zeros-front n l h = length-take-le {A = ℕ} l (replicate n 0) (rw (length-replicate {A = ℕ} n 0) h)

module _ (z : Sizes) (states : ℕ) (text srule sgoto rules targets : List ℕ) (fits : signing_fits z states srule sgoto ≡ true)
    (same : (length rules ≡ length srule) × (length targets ≡ length sgoto)) (start : get_or targets 0 0 ≡ 0) where
  lengths : SigningFits z states srule sgoto
  lengths = signing_fits_lem z states srule sgoto fits

  -- all targets but T's
  abbrev others : List ℕ
  others = take (length targets - 1) (drop 1 targets)

  pub some_target : 1 ≤ length targets
  some_target = omega (arith, same.1, lengths.targets, lengths.numbers.symbols.least)

  others-length : length others ≡ z.symbols - z.terminals - 1
  others-length =
      length-take-le (length targets - 1) (drop 1 targets) (omega (arith, length-drop 1 targets))
      ∙ (let e : length targets - 1 ≡ z.symbols - z.terminals - 1 = omega (arith, same.1, lengths.targets) in e)

  pub scanning : (z.terminals ≤ 256) × (states ≤ 1024) × (length rules ≤ 1024) × (length others ≤ 1024)
  scanning = (
    lengths.numbers.terminals.most,
    lengths.count.most,
    omega (arith, same.0, lengths.rules, lengths.count.most),
    omega (arith, others-length, lengths.numbers.symbols.most),
  )

  module _ {e : Lines} {r t : List ℕ} (s : scanned e r t ≡ scan_of z states text rules others) where
    -- where a line is not as it must be
    pub line-refused : {b : BadLine} → e ≡ Err b → read_outcome (LINE b.0) srule sgoto ≡ told_by z states (length text) srule sgoto (lines_of z states text)
    line-refused {b} q = read-bad z states text srule sgoto rules others (same.0 ∙ lengths.rules) others-length b.0 r t (rw q at s)

    module _ (a : length r ≡ length rules) (b : length t ≡ length others) where
      -- all targets, as the lines leave them
      pub targets-left : take 1 targets ++ (t ++ drop (length targets - 1) (drop 1 targets)) ≡ 0 ∷ t
      targets-left =
          let first : take 1 targets ≡ 0 ∷ [] = take-suc targets 0 0 some_target ∙ ap (λ (x : ℕ). x ∷ []) start in
          let last : drop (length targets - 1) (drop 1 targets) ≡ [] = drop_of_length-le (drop 1 targets) (omega (arith, length-drop 1 targets)) in
          rw (first, last, append-nil t)

      pub keeping : (signing_fits z states r (0 ∷ t) ≡ true) × (length srule ≡ length r) × (length sgoto ≡ length (0 ∷ t))
      keeping =
          let m : length (0 ∷ t) ≡ length sgoto = omega (arith, b, others-length, lengths.targets, lengths.numbers.symbols.least) in (
            fit-signing z states r (0 ∷ t)
                (record { numbers = lengths.numbers; count = lengths.count; rules = a ∙ same.0 ∙ lengths.rules; targets = m ∙ lengths.targets }),
            sym (a ∙ same.0),
            sym m,
          )

      pub signing-read : {size : ℕ} → e ≡ Ok size
          → signed_or (sign_judgement z states r (0 ∷ t)) size r (0 ∷ t) srule sgoto
          ≡ told_by z states (length text) srule sgoto (lines_of z states text)
      signing-read {size} q =
          read-good z states text srule sgoto rules others (same.0 ∙ lengths.rules) others-length size r t (a ∙ same.0 ∙ lengths.rules) (rw q at s)

-- how a sheet is read, step by step
pub ruleset reading_steps = (some_target, scanning)

-- the arrays that a sheet is read into are long enough
pub ruleset room_steps = (rules_room, targets_room)
