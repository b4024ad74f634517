-- The lines of cells are put one after the other. Assumes nothing.
use Rattle.std.specs.Prelude.{◌≡◌, refl, List, [], ◌++◌, ℕ, suc, ◌+◌, ◌-◌, ◌*◌, ◌≤◌, ◌<◌, ℤ}
use Rattle.std.proofs.Common.{arith, ◌∙◌}
use Rattle.sheets.specs.Sheet.{joined}
use Rattle.sheets.specs.Laws.Emit.{Left, left-begin, left-on, left_end}
use Rattle.texts.specs.Printed.{at, cell_line, cell_lines}
use Rattle.texts.specs.declared.pen.Pen.{Pen}
use Rattle.texts.specs.Pen.{Puts, Brief}
use Rattle.texts.specs.Laws.Short.{brief-place}

module _ (base check : List ℤ) (count : ℕ) where
  -- the text of all lines, of cell i, and of the cells from i on
  abbrev pub all_lines : List ℕ
  all_lines = joined (cell_lines base check 0 count)

  abbrev pub line_at : ℕ → List ℕ
  line_at i = cell_line i (at base i) (at check i)

  abbrev pub lines_from : ℕ → List ℕ
  lines_from i = joined (cell_lines base check i (count - i))

  next-line : (i : ℕ) → i < count → lines_from i ≡ line_at i ++ lines_from (i + 1)
  unfolding joined cell_lines
  next-line i h = let e : count - i ≡ suc (count - (i + 1)) = omega arith in rw e

  no_line : (i : ℕ) → count ≤ i → lines_from i ≡ []
  unfolding joined cell_lines
  no_line i h = let e : count - i ≡ 0 = omega arith in rw e

  -- the lines of the cells below i were put with the pen, whose place is not far
  pub record Lines (before pen : Pen) (i : ℕ) : Type 0 where
    pub left : Left before.buffer.now before.at all_lines pen.buffer.now pen.at (lines_from i)
    pub near : pen.at ≤ before.at + 35 * i
    pub upto : i ≤ count
    pub lent : pen.buffer.ghost_name ≡ before.buffer.ghost_name

  module _ {before : Pen} where
    pub lines-begin : Lines before before 0
    lines-begin =
        let e : count - 0 ≡ count = omega arith in
        record { left = rw e left-begin; near = omega arith; upto = omega arith; lent = refl }

    module _ {pen : Pen} (i : ℕ) (l : Lines before pen i) where
      pub lines-on : {after : Pen} → i < count → Brief 35 pen (line_at i) after → Lines before after (i + 1)
      lines-on {after} h b =
          let p : after.at ≤ pen.at + 35 = brief-place b in
          record {
            left = left-on (line_at i) (lines_from (i + 1)) (next-line i h) l.left b.puts.put;
            near = omega (arith, l.near);
            upto = omega arith;
            lent = b.puts.lent ∙ l.lent;
          }

      pub lines_end : count ≤ i → Puts before all_lines pen
      lines_end h = record { put = left_end (rw (no_line i h) at l.left); lent = l.lent }
