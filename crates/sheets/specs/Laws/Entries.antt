-- The value and the line of an entry are read back, and what is read as one is the one that is written. Assumes nothing.
use Rattle.std.specs.Prelude.{◌≡◌, Bool, true, cond, Option, Some, None, refl, false, List, ◌∷◌, ◌++◌, ℕ, zero, suc, ◌+◌, ◌≤◌, ◌<◌, length, drop}
use Rattle.std.proofs.Common.{ap, sym, ◌∙◌, ne_eqb, append_assoc, arith, length-append}
use Rattle.sheets.specs.declared.Value.{Value}
use Rattle.sheets.specs.Decimal.{digit, decimal}
use Rattle.sheets.specs.Sheet.{equals, line_end, none_word, value, line}
use Rattle.sheets.specs.Lines.{begins, stands, value_to, digits_on, number_on, value_at, ended_by, entry_at}
use Rattle.sheets.specs.Laws.Begins.{stands-true, stands_here, drop_past}
use Rattle.sheets.specs.Laws.Digits.{First, first-of, number-back, Number, number-only, is-value, is-place, bad-is}

-- ---- a value

pub value_none : value 0 ≡ none_word
unfolding value
value_none = refl

pub value-some : (v : ℕ) → 1 ≤ v → value v ≡ decimal v
unfolding value
value-some v l = rw (ne_eqb v 0 (λ e. omega arith))

-- a digit does not begin `none`
digit-none : (d : ℕ) (t : List ℕ) → d < 10 → begins none_word (digit d ∷ t) ≡ false
unfolding begins
digit-none d t h = rw (ne_eqb 110 (48 + d) (λ e. omega arith))

module _ (text : List ℕ) (at : ℕ) where
  -- no `none` stands where a number does
  some-not-none : (v : ℕ) (t : List ℕ) → 1 ≤ v → drop at text ≡ decimal v ++ t → stands text at none_word ≡ false
  unfolding stands
  some-not-none v t l here = by (first-of v l)
    where
      by : First v → begins none_word (drop at text) ≡ false
      by f = rw (here, f.whole) (digit-none f.first (f.others ++ t) f.most)

  -- a value is read back where LF comes after it
  pub value-back : (v : ℕ) (rest : List ℕ) → v ≤ 65535 → drop at text ≡ value v ++ (line_end ++ rest) → value_at text at ≡ value_to v (at + length (value v))
  unfolding value_at digits_on
  value-back zero rest h here =
      rw (value_none, stands_here text at none_word (line_end ++ rest) (here ∙ ap (λ (k : List ℕ). k ++ (line_end ++ rest)) value_none))
  value-back (suc v) rest h here =
      let l : 1 ≤ suc v = omega arith in
      let d : drop at text ≡ decimal (suc v) ++ (line_end ++ rest) = here ∙ ap (λ (k : List ℕ). k ++ (line_end ++ rest)) (value-some (suc v) l) in
      rw (value-some (suc v) l, some-not-none (suc v) (line_end ++ rest) l d, d) (number-back 65535 (suc v) at (line_end ++ rest) l h)

  -- what is read as a value is that value
  pub value-only : (v p : ℕ) → value_at text at ≡ value_to v p → drop at text ≡ value v ++ drop p text
  unfolding value_at
  value-only v p e = by (stands text at none_word) refl e
    where
      number : Number v at p (drop at text) → drop at text ≡ value v ++ drop p text
      number n =
          rw (value-some v n.some, n.place, drop_past text at (decimal v) n.rest n.split) n.split

      by : (b : Bool) → stands text at none_word ≡ b → cond b (value_to 0 (at + length none_word)) (number_on 65535 at (drop at text)) ≡ value_to v p
          → drop at text ≡ value v ++ drop p text
      by true s q = rw (← is-value q, ← is-place q, value_none) (stands-true text at none_word s)
      by false s q = number (number-only 65535 v at p (drop at text) q)

-- ---- a line

-- a line and what comes after it, in the parts in which it is read
line-parts : (key v rest : List ℕ) → line key v ++ rest ≡ (key ++ equals) ++ (v ++ (line_end ++ rest))
unfolding line
line-parts key v rest = simp append_assoc

pub line-length : (key v : List ℕ) → length (line key v) ≡ length key + length v + 2
unfolding line
line-length key v = simp length-append (omega arith)

module _ (text : List ℕ) (at : ℕ) (key : List ℕ) (v : ℕ) where
  -- the place of the value
  abbrev value_place : ℕ
  value_place = at + length (key ++ equals)

  pub entry-back : (rest : List ℕ) → v ≤ 65535 → drop at text ≡ line key (value v) ++ rest → entry_at text at key ≡ value_to v (at + length (line key (value v)))
  unfolding entry_at
  entry-back rest h here =
      let k : drop at text ≡ (key ++ equals) ++ (value v ++ (line_end ++ rest)) = here ∙ line-parts key (value v) rest in
      let d : drop value_place text ≡ value v ++ (line_end ++ rest) = drop_past text at (key ++ equals) (value v ++ (line_end ++ rest)) k in
      let l : drop (value_place + length (value v)) text ≡ line_end ++ rest = drop_past text value_place (value v) (line_end ++ rest) d in
      let p : value_place + length (value v) + 1 ≡ at + length (line key (value v)) = omega (arith, line-length key (value v), length-append key equals) in
      rw (
        stands_here text at (key ++ equals) (value v ++ (line_end ++ rest)) k,
        value-back text value_place v rest h d,
        stands_here text (value_place + length (value v)) line_end rest l,
        p,
      )

  -- a value that LF ends
  ended-only : (u r p : ℕ) → drop value_place text ≡ value u ++ drop r text → (b : Bool) → stands text r line_end ≡ b → cond b (value_to u (r + 1)) None ≡ value_to v p
      → drop value_place text ≡ value v ++ (line_end ++ drop p text)
  ended-only u r p d true s q =
      rw (← is-value q, ← is-place q) (d ∙ ap (λ (t : List ℕ). value u ++ t) (stands-true text r line_end s))
  ended-only u r p d false s q = absurd (bad-is q)

  pub entry-only : (p : ℕ) → entry_at text at key ≡ value_to v p → drop at text ≡ line key (value v) ++ drop p text
  unfolding entry_at
  entry-only p e = by (stands text at (key ++ equals)) refl e
    where
      valued : (w : Option Value) → value_at text value_place ≡ w → ended_by text w ≡ value_to v p → drop value_place text ≡ value v ++ (line_end ++ drop p text)
      valued None s q = absurd (bad-is q)
      valued (Some w) s q = ended-only w.number w.next p (value-only text value_place w.number w.next s) (stands text w.next line_end) refl q

      by : (b : Bool) → stands text at (key ++ equals) ≡ b → cond b (ended_by text (value_at text value_place)) None ≡ value_to v p
          → drop at text ≡ line key (value v) ++ drop p text
      by true s q =
          stands-true text at (key ++ equals) s
          ∙ ap (λ (t : List ℕ). (key ++ equals) ++ t) (valued (value_at text value_place) refl q)
          ∙ sym (line-parts key (value v) (drop p text))
      by false s q = absurd (bad-is q)

-- how a value is written, by what it is
pub ruleset value_steps = (value_none, value-some)
