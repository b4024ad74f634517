-- What is printed is short. Assumes nothing.
use Rattle.std.specs.Prelude.{◌≡◌, refl, Bool, true, false, cond, List, ◌++◌, leb, eqb, ℤ, pos, negsuc, length, get_or, ℕ, zero, suc, ◌+◌, ◌*◌, ◌≤◌, ◌<◌}
use Rattle.std.proofs.Common.{ap, ◌∙◌, eqb-true, arith, length-append}
use Rattle.std.proofs.Math.Seq.{length-sets}
use Rattle.number.specs.Number.{sign_of}
use Rattle.sheets.specs.Decimal.{decimal}
use Rattle.sheets.specs.Sheet.{line, joined}
use Rattle.sheets.specs.Outcome.{ReadOutcome}
use Rattle.sheets.specs.Emit.{Emitted}
use Rattle.sheets.specs.Laws.Entries.{line-length}
use Rattle.packing.specs.Packing.{Result}
use Rattle.packing.specs.Laws.Stored.{size}
use Rattle.packing.specs.Laws.Numbers.{Held}
use Rattle.texts.specs.Printed.{cells_key, refused_key, comma, dash, signed, at, cell_line, cell_lines, cells_text, refusal_text}
use Rattle.texts.specs.Laws.Short.{decimal-short}
use Rattle.printed.specs.Printed.{board_packed, lent, packed_text, signed_text, board_read, read_text, printed}
use Rattle.printed.specs.Laws.Board.{reading-low, packing-low, board-held}

-- ---- a refusal

refusal-short : (n : ℕ) → n ≤ 16 → length (refusal_text n) ≤ 2048
unfolding refusal_text
refusal-short n h = omega (arith, line-length refused_key (decimal n), decimal-short 1 n (omega arith))

-- ---- cells

number_short : (v : ℤ) → size v ≤ 2000 → length (signed (sign_of v)) ≤ 5
number_short (pos n) h = omega (arith, decimal-short 3 n (omega arith))
number_short (negsuc n) h = omega (arith, length-append dash (decimal (suc n)), decimal-short 3 (suc n) (omega arith))

module _ (base check : List ℤ) (b : (c : ℕ) → size (get_or base c (pos 0)) ≤ 2000) (k : (c : ℕ) → size (get_or check c (pos 0)) ≤ 2000) where
  cell-short : (i : ℕ) → i < 64 → length (cell_line i (at base i) (at check i)) ≤ 15
  unfolding cell_line
  cell-short i h =
      omega (
        arith,
        line-length (decimal i) (signed (at base i) ++ (comma ++ signed (at check i))),
        length-append (signed (at base i)) (comma ++ signed (at check i)),
        length-append comma (signed (at check i)),
        decimal-short 1 i (omega arith),
        number_short (get_or base i (pos 0)) (b i),
        number_short (get_or check i (pos 0)) (k i),
      )

  lines-short : (n i : ℕ) → i + n ≤ 64 → length (joined (cell_lines base check i n)) ≤ 15 * n
  unfolding joined cell_lines
  lines-short zero i h = omega arith
  lines-short (suc n) i h =
      omega (
        arith,
        length-append (cell_line i (at base i) (at check i)) (joined (cell_lines base check (i + 1) n)),
        cell-short i (omega arith),
        lines-short n (i + 1) (omega arith),
      )

  cells-short : (n : ℕ) → n ≤ 64 → length (cells_text base check n) ≤ 2048
  unfolding cells_text
  cells-short n h =
      omega (
        arith,
        length-append (line cells_key (decimal n)) (joined (cell_lines base check 0 n)),
        line-length cells_key (decimal n),
        decimal-short 1 n (omega arith),
        lines-short n 0 (omega arith),
      )

-- ---- all of it

packed-short : (r : Result) → r.said.number ≤ 5 → (r.said.number ≡ 0 → Held 2000 64 r) → length (packed_text r) ≤ 2048
unfolding packed_text
packed-short r h g = by (eqb r.said.number 0) refl
  where
    cells : Held 2000 64 r → length (cells_text r.arrays.bases r.arrays.checks (get_or r.said.values 0 0)) ≤ 2048
    cells d = cells-short r.arrays.bases r.arrays.checks d.bases d.checks (get_or r.said.values 0 0) d.count

    by : (b : Bool) → eqb r.said.number 0 ≡ b
        → length (cond b (cells_text r.arrays.bases r.arrays.checks (get_or r.said.values 0 0)) (refusal_text r.said.number)) ≤ 2048
    by true e = cells (g (eqb-true r.said.number 0 e))
    by false e = refusal-short r.said.number (omega arith)

signed-short : (srule sgoto : List ℕ) → length (signed_text srule sgoto) ≤ 2048
unfolding signed_text
signed-short srule sgoto = packed-short (board_packed srule sgoto lent) (packing-low srule sgoto) (board-held srule sgoto)

read_short : (o : ReadOutcome) → o.said.number ≤ 15 → length (read_text o) ≤ 2048
unfolding read_text
read_short o h = by (eqb o.said.number 0)
  where
    by : (b : Bool) → length (cond b (signed_text o.srule o.sgoto) (refusal_text o.said.number)) ≤ 2048
    by true = signed-short o.srule o.sgoto
    by false = refusal-short o.said.number (omega arith)

pub printed-short : (text : List ℕ) → length (printed text) ≤ 2048
unfolding printed
printed-short text = by (leb (length text) 65536)
  where
    by : (b : Bool) → length (cond b (read_text (board_read text)) (refusal_text 16)) ≤ 2048
    by true = read_short (board_read text) (reading-low text)
    by false = refusal-short 16 (omega arith)

-- it ends inside a buffer of 2,048 bytes
pub printed-inside : {out after : List ℕ} {n : ℕ} (text : List ℕ) → 2048 ≤ length out → Emitted out 0 (printed text) n after → n ≤ length after
printed-inside {out} {after} text h e =
    let l : length after ≡ length out = ap length e.stored ∙ length-sets out 0 (printed text) in
    omega (arith, e.place, printed-short text)
