-- What reading a sheet says is a number up to 15. Assumes nothing.
use Rattle.std.specs.Prelude.{Bool, cond, List, [], ◌∷◌, ℕ, ◌≤◌, eqb, length, take, drop, true, false}
use Rattle.std.proofs.Common.{arith}
use Rattle.tables.specs.declared.Sizes.{Sizes}
use Rattle.tables.specs.Said.{Said, OK, SIZE}
use Rattle.tables.specs.Size.{signing_fits}
use Rattle.tables.specs.Judgement.{sign_judgement}
use Rattle.tables.specs.Laws.Numbers.{sign_low}
use Rattle.sheets.specs.Lines.{Told, values, bad_line, lines_of}
use Rattle.sheets.specs.Outcome.{read_outcome, signed_or, told_by, sheet_read}

-- a signing that was read says OK or what SIGN says
signed_low : (q : Said) (n : ℕ) (rules targets srule sgoto : List ℕ) → q.number ≤ 4 → (signed_or q n rules targets srule sgoto).said.number ≤ 15
unfolding signed_or
signed_low q n rules targets srule sgoto h = by (eqb q.number 0)
  where
    by : (b : Bool) → (cond b (read_outcome (OK (n ∷ [])) rules targets) (read_outcome q srule sgoto)).said.number ≤ 15
    by true = omega arith
    by false = omega arith

module _ (z : Sizes) (states : ℕ) (text srule sgoto : List ℕ) where
  -- the lines say LINE, or SIGN is asked
  told-low : (t : Told) → (told_by z states (length text) srule sgoto t).said.number ≤ 15
  told-low (bad_line n) = omega arith
  told-low (values vs) =
      signed_low (sign_judgement z states (take states vs) (0 ∷ drop states vs)) (length text) (take states vs) (0 ∷ drop states vs) srule sgoto
      (sign_low z states (take states vs) (0 ∷ drop states vs))

  -- 0, SIZE, SIGN or LINE
  pub read_low : (sheet_read z states text srule sgoto).said.number ≤ 15
  unfolding sheet_read
  read_low = by (signing_fits z states srule sgoto)
    where
      by : (b : Bool) → (cond b (told_by z states (length text) srule sgoto (lines_of z states text)) (read_outcome SIZE srule sgoto)).said.number ≤ 15
      by true = told-low (lines_of z states text)
      by false = omega arith
