-- What is proved of what packsheet prints. Assumes nothing.
use Rattle.std.specs.Prelude.{◌≡◌, List, [], ℕ, ◌≤◌, ◌<◌, length, take}
use Rattle.std.proofs.Common.{sym, ◌∙◌, arith}
use Rattle.sheets.specs.Emit.{Emitted}
use Rattle.sheets.specs.SmallSheet.{sheet}
use Rattle.printed.specs.Printed.{printed}
use Rattle.printed.specs.Worked.{worked_output, long_output, empty_output}
use Rattle.printed.specs.Laws.Printed.{long-printed, put-once, put_whole}
use Rattle.printed.specs.Laws.Short.{printed-short}
use Rattle.printed.specs.Laws.Worked.{sheet-printed, empty-printed, long_output_lem}

-- The sheet of 01 prints the 21 cells of 01.
pub worked : printed sheet ≡ worked_output
worked = sheet-printed

-- A text of no bytes prints `refused=15`.
pub empty : printed [] ≡ empty_output
empty = empty-printed

-- A text above 65,536 bytes prints `refused=16`, whatever it is.
pub too_long : (text : List ℕ) → 65536 < length text → printed text ≡ long_output
too_long text h = sym (long-printed text h) ∙ long_output_lem

-- What is printed is never longer than 2,048 bytes.
pub short : (text : List ℕ) → length (printed text) ≤ 2048
short = printed-short

-- A buffer of 2,048 bytes holds it: the bytes before the length that is given are what is printed.
pub whole : (text out after : List ℕ) (n : ℕ) → 2048 ≤ length out → Emitted out 0 (printed text) n after → take n after ≡ printed text
whole text out after n h e = put_whole (printed text) (omega (arith, printed-short text)) e

-- Two outcomes that the contract allows for one input are equal.
pub one-outcome : (text out after after₂ : List ℕ) (n n₂ : ℕ) → Emitted out 0 (printed text) n after → Emitted out 0 (printed text) n₂ after₂
    → (n ≡ n₂) × (after ≡ after₂)
one-outcome text out after after₂ n n₂ e f = put-once e f
