-- Where the right side of a rule begins and ends in the array that has all of them, one after the other. Assumes nothing.
use Rattle.std.specs.Prelude.{◌≡◌, refl, List, ℕ, ◌+◌, ◌-◌, ◌≤◌, ◌<◌, length, get_or, take, drop}
use Rattle.std.proofs.Common.{add-one, arith}
use Rattle.tables.specs.declared.Sizes.{Sizes}
use Rattle.tables.specs.Lists.{sum}
use Rattle.tables.specs.Grammar.{right_at}
use Rattle.tables.specs.Laws.Lists.{sum_more, sum-part, sum_bound}
use Rattle.tables.specs.Laws.Size.{GrammarFits}

-- the right side of rule i + 1 begins at `from`: the lengths before it add up to that
pub record Begins (lens : List ℕ) (i from : ℕ) : Type 0 where
  pub before : sum (take i lens) ≡ from

-- that of rule 1 begins at 0
pub begins-first : (lens : List ℕ) → Begins lens 0 0
unfolding sum
begins-first lens = record { before = refl }

-- it is the part of the array from there on that is as long as it
pub begins-part : (lens rights : List ℕ) {i from : ℕ} → Begins lens i from → take (from + get_or lens i 0 - from) (drop from rights) ≡ right_at lens rights i
unfolding right_at
begins-part lens rights {i} {from} b = let e : from + get_or lens i 0 - from ≡ get_or lens i 0 = omega arith in rw (e, b.before)

module _ {z : Sizes} {left lens rights : List ℕ} (fit : GrammarFits z left lens rights) {i from : ℕ} (b : Begins lens i from) (h : i < length left) where
  -- the next one begins where it ends
  pub begins-next : Begins lens (i + 1) (from + get_or lens i 0)
  begins-next =
      let l : i < length lens = omega (arith, fit.lefts, fit.lengths) in
      record { before = rw (add-one i, sum_more lens i l, b.before) }

  -- it ends inside the array
  pub ends-inside : from + get_or lens i 0 ≤ length rights
  ends-inside = omega (arith, begins-next.before, sum-part lens (i + 1), fit.total)

  -- and not above 1,024 times 64
  pub ends-small : from + get_or lens i 0 ≤ 65536
  ends-small = omega (arith, sum_bound lens fit.short, begins-next.before, sum-part lens (i + 1), fit.lengths, fit.numbers.rules.most)
