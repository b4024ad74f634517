-- What is printed, told by what reading and packing say. Assumes nothing.
use Rattle.std.specs.Prelude.{◌≡◌, refl, Bool, true, false, leb, ◌++◌, List, [], ◌∷◌, ℕ, ◌+◌, ◌≤◌, ◌<◌, length, take, drop, replicate}
use Rattle.std.proofs.Common.{append-nil, length-append, leb-true, leb-false, sym, ◌∙◌, arith, take_at, eq-eqb, ne_eqb, le-leb, ap}
use Rattle.std.proofs.lemmas.List.Edits.{sets-eq}
use Rattle.std.proofs.lemmas.Bool.{lt-leb}
use Rattle.tables.specs.Said.{Said, OK}
use Rattle.sheets.specs.declared.ReadRefusal.{ReadRefusal}
use Rattle.sheets.specs.declared.ReadRefusal.TheVariants as reading
use Rattle.sheets.specs.Outcome.{read_refused, ReadOutcome, read_outcome, sheet_read}
use Rattle.sheets.specs.Emit.{Emitted}
use Rattle.sheets.specs.Laws.Said.{refused-some}
use Rattle.packing.specs.declared.PackRefusal.{PackRefusal}
use Rattle.packing.specs.declared.PackRefusal.TheVariants as packing
use Rattle.packing.specs.Bench.{Bench}
use Rattle.packing.specs.Packing.{refused as pack_refused, Result, packing_result}
use Rattle.texts.specs.Printed.{cells_text, refusal_text}
use Rattle.board.specs.declared.Board.{Board}
use Rattle.board.specs.Board.{small}
use Rattle.printed.specs.Printed.{packed_text, signed_text, board_read, read_text, printed}

-- the small board, as code has it
module _ {b : Board} (e : b ≡ small) where
  pub board_read_lem : {o : ReadOutcome} (text : List ℕ) → o ≡ sheet_read b.sizes b.states text (replicate 7 0) (replicate 3 0) → o ≡ board_read text
  unfolding board_read
  board_read_lem text h = h ∙ ap (λ (x : Board). sheet_read x.sizes x.states text (replicate 7 0) (replicate 3 0)) e

-- ---- what packing and reading say, and leave

-- no refusal is 0
pub pack-refused-some : (e : PackRefusal) → 1 ≤ (pack_refused e).number
pack-refused-some (packing.Judged e) = refused-some e
pack-refused-some packing.NoRoom = omega arith

pub read-refused-some : (e : ReadRefusal) → 1 ≤ (read_refused e).number
read-refused-some (reading.Judged e) = refused-some e
read-refused-some (reading.Line n) = omega arith

-- what packing says, and leaves
module _ (r : Result) {q : Said} {A : Bench} (e : packing_result q A ≡ r) where
  pub cells-printed : {n : ℕ} → q ≡ OK (n ∷ []) → cells_text A.bases A.checks n ≡ packed_text r
  unfolding packed_text
  cells-printed h = rw (← e, h)

  pub packing-refused : 1 ≤ q.number → refusal_text q.number ≡ packed_text r
  unfolding packed_text
  packing-refused h = rw (← e, ne_eqb q.number 0 (λ n. omega arith))

-- what reading says, and leaves
module _ (o : ReadOutcome) {q : Said} {srule sgoto : List ℕ} (e : read_outcome q srule sgoto ≡ o) where
  pub signing-printed : q.number ≡ 0 → signed_text srule sgoto ≡ read_text o
  unfolding read_text
  signing-printed h = rw (← e, eq-eqb q.number 0 h)

  pub reading-refused : 1 ≤ q.number → refusal_text q.number ≡ read_text o
  unfolding read_text
  reading-refused h = rw (← e, ne_eqb q.number 0 (λ n. omega arith))

-- how long the text is
pub short-printed : (text : List ℕ) → length text ≤ 65536 → read_text (board_read text) ≡ printed text
unfolding printed
short-printed text h = rw (le-leb (length text) 65536 h)

pub long-printed : (text : List ℕ) → 65536 < length text → refusal_text 16 ≡ printed text
unfolding printed
long-printed text h = rw (lt-leb (length text) 65536 h)

-- what comes after a text that is too long changes nothing
pub printed-front : (front rest : List ℕ) → (length front ≤ 65536 → rest ≡ []) → printed front ≡ printed (front ++ rest)
printed-front front rest ends = by (leb (length front) 65536) refl
  where
    by : (b : Bool) → leb (length front) 65536 ≡ b → printed front ≡ printed (front ++ rest)
    by true e = rw (ends (leb-true _ _ e), append-nil front)
    by false e =
        let l : 65536 < length front = leb-false _ _ e in
        sym (long-printed front l) ∙ long-printed (front ++ rest) (omega (arith, length-append front rest))

-- the same text was put
pub put_same : {before after s t : List ℕ} {at to : ℕ} → s ≡ t → Emitted before at s to after → Emitted before at t to after
put_same e p = rw e at p

-- bytes are put in one way
pub put-once : {before after after₂ s : List ℕ} {at to to₂ : ℕ} → Emitted before at s to after → Emitted before at s to₂ after₂ → (to ≡ to₂) × (after ≡ after₂)
put-once e f = (e.place ∙ sym f.place, e.stored ∙ sym f.stored)

-- bytes that fit stand at the front
pub put_whole : {before after : List ℕ} {to : ℕ} (s : List ℕ) → length s ≤ length before → Emitted before 0 s to after → take to after ≡ s
put_whole {before} {to = to} s h e =
    ap (take to) (e.stored ∙ sets-eq s before 0 (omega arith)) ∙ take_at s (drop (0 + length s) before) to (let p : length s ≡ to = omega (arith, e.place) in p)
