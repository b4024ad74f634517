-- What is proved of the sheet as a whole: a written sheet is read back, a signing has one text, and an input has one outcome. Assumes nothing.
use Rattle.std.specs.Prelude.{◌≡◌, refl, true, Ok, Err, List, [], ◌∷◌, ℕ, length, get_or, take}
use Rattle.std.proofs.Common.{sym, ap, ◌∙◌, arith}
use Rattle.tables.specs.declared.Sizes.{Sizes}
use Rattle.tables.specs.Said.{Said, OK}
use Rattle.tables.specs.Size.{signing_fits}
use Rattle.tables.specs.declared.Refusal.{Refusal}
use Rattle.tables.specs.Judgement.{refused}
use Rattle.sheets.specs.declared.ReadRefusal.TheVariants as read
use Rattle.sheets.specs.declared.WriteRefusal.TheVariants as write
use Rattle.sheets.specs.Sheet.{sheet_text}
use Rattle.sheets.specs.Outcome.{Reading, Writing, read_said, write_said, ReadOutcome, read_outcome, WriteOutcome, write_outcome, sheet_read, sheet_write}
use Rattle.sheets.specs.Meaning.{Signed, Meaning}
use Rattle.sheets.specs.Laws.Said.{ok-value, said-number, refused-some, refused-low, refused-once}
use Rattle.sheets.specs.Laws.Round.{text-back, Written, written, written-text}
use Rattle.sheets.specs.Laws.Unique.{read_only}

module _ (z : Sizes) (states : ℕ) where
  -- ROUND, for the text: that of a signing which fits and is not refused is read as this signing, whatever fitting signing was lent
  pub round-text : (srule sgoto rules targets : List ℕ) → Signed z states srule sgoto → signing_fits z states rules targets ≡ true
      → sheet_read z states (sheet_text z states srule sgoto) rules targets ≡ read_outcome (OK (length (sheet_text z states srule sgoto) ∷ [])) srule sgoto
  round-text srule sgoto rules targets y f = text-back z states srule sgoto rules targets y f

  -- ROUND: where the writer says OK n, the first n bytes that it left are read as the signing that it wrote, and n is said again
  pub round : (srule sgoto buffer rules targets : List ℕ) (n : ℕ) → (sheet_write z states srule sgoto buffer).said ≡ OK (n ∷ [])
      → signing_fits z states rules targets ≡ true
      → sheet_read z states (take n (sheet_write z states srule sgoto buffer).buffer) rules targets ≡ read_outcome (OK (n ∷ [])) srule sgoto
  round srule sgoto buffer rules targets n e f =
      let w : Written z states srule sgoto buffer n = written z states srule sgoto buffer n e in
      rw (written-text z states srule sgoto buffer n w, w.put.size) (round-text srule sgoto rules targets w.good f)

  -- UNIQUE: a text that is read with OK n as a signing is this signing's text, n is its length, and the signing fits and is not refused
  pub unique : (text rules targets srule sgoto : List ℕ) (n : ℕ) → sheet_read z states text rules targets ≡ read_outcome (OK (n ∷ [])) srule sgoto
      → Meaning z states text n srule sgoto
  unique text rules targets srule sgoto n e = read_only z states text rules targets n srule sgoto e

  -- two texts that are read as the same signing are the same text
  pub one-text : (text text₂ rules targets rules₂ targets₂ srule sgoto : List ℕ) (n n₂ : ℕ)
      → sheet_read z states text rules targets ≡ read_outcome (OK (n ∷ [])) srule sgoto
      → sheet_read z states text₂ rules₂ targets₂ ≡ read_outcome (OK (n₂ ∷ [])) srule sgoto
      → text ≡ text₂
  one-text text text₂ rules targets rules₂ targets₂ srule sgoto n n₂ e f =
      (unique text rules targets srule sgoto n e).same ∙ sym (unique text₂ rules₂ targets₂ srule sgoto n₂ f).same

-- ---- at most one outcome

-- two readings of which the same is said are the same
pub read-once : (a b : Reading) → read_said a ≡ read_said b → a ≡ b
read-once (Ok m) (Ok n) e = ap Ok (ok-value e)
read-once (Ok m) (Err (read.Line n)) e = absurd (let k : ◌≡◌ {A = ℕ} 0 15 = said-number e in omega arith)
read-once (Ok m) (Err (read.Judged j)) e = absurd (let k : 0 ≡ (refused j).number = said-number e in omega (arith, refused-some j))
read-once (Err (read.Line m)) (Ok n) e = absurd (let k : ◌≡◌ {A = ℕ} 15 0 = said-number e in omega arith)
read-once (Err (read.Line m)) (Err (read.Line n)) e = ap (λ (n : ℕ). Err (read.Line n)) (ap (λ (s : Said). get_or s.values 0 0) e)
read-once (Err (read.Line m)) (Err (read.Judged j)) e = absurd (let k : 15 ≡ (refused j).number = said-number e in omega (arith, refused-low j))
read-once (Err (read.Judged j)) (Ok n) e = absurd (let k : (refused j).number ≡ 0 = said-number e in omega (arith, refused-some j))
read-once (Err (read.Judged j)) (Err (read.Line n)) e = absurd (let k : (refused j).number ≡ 15 = said-number e in omega (arith, refused-low j))
read-once (Err (read.Judged i)) (Err (read.Judged j)) e = ap (λ (j : Refusal). Err (read.Judged j)) (refused-once i j e)

-- two writings of which the same is said are the same
pub write-once : (a b : Writing) → write_said a ≡ write_said b → a ≡ b
write-once (Ok m) (Ok n) e = ap Ok (ok-value e)
write-once (Ok m) (Err write.Text) e = absurd (let k : ◌≡◌ {A = ℕ} 0 16 = said-number e in omega arith)
write-once (Ok m) (Err (write.Judged j)) e = absurd (let k : 0 ≡ (refused j).number = said-number e in omega (arith, refused-some j))
write-once (Err write.Text) (Ok n) e = absurd (let k : ◌≡◌ {A = ℕ} 16 0 = said-number e in omega arith)
write-once (Err write.Text) (Err write.Text) e = refl
write-once (Err write.Text) (Err (write.Judged j)) e = absurd (let k : 16 ≡ (refused j).number = said-number e in omega (arith, refused-low j))
write-once (Err (write.Judged j)) (Ok n) e = absurd (let k : (refused j).number ≡ 0 = said-number e in omega (arith, refused-some j))
write-once (Err (write.Judged j)) (Err write.Text) e = absurd (let k : (refused j).number ≡ 16 = said-number e in omega (arith, refused-low j))
write-once (Err (write.Judged i)) (Err (write.Judged j)) e = ap (λ (j : Refusal). Err (write.Judged j)) (refused-once i j e)

-- two outcomes that the reader's contract allows for one input are equal
pub read-one-outcome : (a b : Reading) (rules targets rules₂ targets₂ : List ℕ) (o : ReadOutcome)
    → read_outcome (read_said a) rules targets ≡ o → read_outcome (read_said b) rules₂ targets₂ ≡ o → (a ≡ b) × (rules ≡ rules₂) × (targets ≡ targets₂)
read-one-outcome a b rules targets rules₂ targets₂ o e f =
    let g : read_outcome (read_said a) rules targets ≡ read_outcome (read_said b) rules₂ targets₂ = e ∙ sym f in (
      read-once a b (ap (λ (r : ReadOutcome). r.said) g),
      ap (λ (r : ReadOutcome). r.srule) g,
      ap (λ (r : ReadOutcome). r.sgoto) g,
    )

-- and so are two that the writer's allows
pub write-one-outcome : (a b : Writing) (buffer buffer₂ : List ℕ) (o : WriteOutcome)
    → write_outcome (write_said a) buffer ≡ o → write_outcome (write_said b) buffer₂ ≡ o → (a ≡ b) × (buffer ≡ buffer₂)
write-one-outcome a b buffer buffer₂ o e f =
    let g : write_outcome (write_said a) buffer ≡ write_outcome (write_said b) buffer₂ = e ∙ sym f in
    (write-once a b (ap (λ (w : WriteOutcome). w.said) g), ap (λ (w : WriteOutcome). w.buffer) g)
