-- What reading and packing for the small board say and leave: low numbers, and at most 64 cells with small numbers in them. Assumes nothing.
use Rattle.std.specs.Prelude.{◌≡◌, List, [], ◌∷◌, ℕ, ◌≤◌, get_or, replicate}
use Rattle.std.proofs.Common.{sym, ap, ◌∙◌, arith}
use Rattle.sheets.specs.Laws.Numbers.{read_low}
use Rattle.tables.specs.Said.{Said, OK}
use Rattle.packing.specs.Bench.{Bench}
use Rattle.packing.specs.Packing.{Result, packing_result}
use Rattle.packing.specs.Laws.Numbers as packing
use Rattle.board.specs.Board.{small}
use Rattle.printed.specs.Printed.{board_packed, lent, board_read}

-- reading says a number up to 15
pub reading-low : (text : List ℕ) → (board_read text).said.number ≤ 15
unfolding board_read
reading-low text = read_low small.sizes small.states text (replicate 7 0) (replicate 3 0)

module _ (srule sgoto : List ℕ) where
  -- packing says a number up to 5
  pub packing-low : (board_packed srule sgoto lent).said.number ≤ 5
  unfolding board_packed
  packing-low = packing.packed-low small.sizes small.states small.left small.lens small.rights small.table srule sgoto lent

  -- where it says OK, there are at most 64 cells, with numbers up to 2,000 in them
  pub board-held : (board_packed srule sgoto lent).said.number ≡ 0 → packing.Held 2000 64 (board_packed srule sgoto lent)
  unfolding board_packed
  board-held h =
      packing.packed-held small.sizes small.states small.left small.lens small.rights small.table srule sgoto lent 2000 (omega arith) (omega arith) h

  -- the count, as a number of the code
  pub count_fits : {q : Said} {A : Bench} {n : ℕ} → packing_result q A ≡ board_packed srule sgoto lent → q ≡ OK (n ∷ []) → n ≤ 64
  count_fits {q} {A} {n} e h =
      let s : (board_packed srule sgoto lent).said ≡ OK (n ∷ []) = ap (λ (r : Result). r.said) (sym e) ∙ h in
      let k : get_or (board_packed srule sgoto lent).said.values 0 0 ≡ n = ap (λ (s : Said). get_or s.values 0 0) s in
      omega (arith, k, (board-held (ap (λ (s : Said). s.number) s)).count)
