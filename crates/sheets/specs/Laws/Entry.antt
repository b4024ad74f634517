-- Numbers, values and entries, read byte by byte. Assumes nothing.
use Rattle.std.specs.Prelude.{◌≡◌, refl, true, false, cond, Some, None, List, [], ◌∷◌, ◌++◌, ℕ, suc, ◌+◌, ◌-◌, ◌*◌, ◌≤◌, ◌<◌, length, get_or, drop}
use Rattle.std.proofs.Common.{ap, ◌∙◌, arith, drop_of_length-le, drop-cons, add-one, le-leb}
use Rattle.std.proofs.lemmas.Bool.{lt-leb}
use Rattle.tables.specs.Size.{is_within}
use Rattle.sheets.specs.declared.Value.{Value}
use Rattle.sheets.specs.Sheet.{equals, line_end, none_word}
use Rattle.sheets.specs.Lines.{value_to, digits_on, number_on, value_at, ended_by, entry_at}
use Rattle.sheets.specs.Walk.{past_at}
use Rattle.sheets.specs.Laws.Place.{past-then, past-else}

-- ---- digits

-- the first digits of t were read, up to place, and write n; the rest are still to be read
pub record Digits (most at : ℕ) (t : List ℕ) (n place i : ℕ) : Type 0 where
  pub small : n ≤ most
  pub along : place ≡ at + i
  pub same : digits_on most 0 at t ≡ digits_on most n place (drop i t)

module _ {most at : ℕ} {t : List ℕ} {n place i : ℕ} (w : Digits most at t n place i) where
  pub digits-end : length t ≤ i → digits_on most 0 at t ≡ value_to n place
  unfolding digits_on
  digits-end h = w.same ∙ ap (digits_on most n place) (drop_of_length-le t h)

  module _ (h : i < length t) where
    byte : digits_on most 0 at t ≡ digits_on most n place (get_or t i 0 ∷ drop (suc i) t)
    byte = w.same ∙ ap (digits_on most n place) (drop-cons t i 0 h)

    pub digits-stop : is_within 48 57 (get_or t i 0) ≡ false → digits_on most 0 at t ≡ value_to n place
    unfolding digits_on
    digits-stop d = byte ∙ rw d

    module _ (d : is_within 48 57 (get_or t i 0) ≡ true) where
      pub digits-over : most < n * 10 + (get_or t i 0 - 48) → digits_on most 0 at t ≡ None
      unfolding digits_on
      digits-over o = byte ∙ rw (d, lt-leb _ most o)

      pub digits-on : n * 10 + (get_or t i 0 - 48) ≤ most → Digits most at t (n * 10 + (get_or t i 0 - 48)) (place + 1) (i + 1)
      unfolding digits_on
      digits-on o = record { small = o; along = omega (arith, w.along); same = byte ∙ rw (d, le-leb _ most o, add-one i) }

-- how digits are read, step by step
pub ruleset digits_steps = (digits-end, digits-stop, digits-over, digits-on)

-- ---- a number, a value, an entry

module _ (most at : ℕ) where
  opens : (t : List ℕ) → number_on most at t ≡ cond (is_within 49 57 (get_or t 0 0)) (digits_on most 0 at t) None
  unfolding number_on
  opens [] = refl
  opens (c ∷ t) = refl

  module _ (t : List ℕ) where
    pub number-digits : 49 ≤ get_or t 0 0 → get_or t 0 0 ≤ 57 → number_on most at t ≡ digits_on most 0 at t
    number-digits l h = opens t ∙ rw (le-leb 49 _ l, le-leb _ 57 h)

    pub number-low : get_or t 0 0 < 49 → number_on most at t ≡ None
    number-low h = opens t ∙ rw (lt-leb 49 _ h)

    pub number-high : 57 < get_or t 0 0 → number_on most at t ≡ None
    number-high h = opens t ∙ rw (le-leb 49 (get_or t 0 0) (omega arith), lt-leb _ 57 h)

    -- nothing stands there
    pub number-none : length t < 1 → number_on most at t ≡ None
    number-none h = by t h
      where
        by : (t : List ℕ) → length t < 1 → number_on most at t ≡ None
        by [] h = opens []
        by (c ∷ t) h = absurd (omega arith)

module _ (text : List ℕ) (at : ℕ) where
  pub value-word : {p : ℕ} → past_at text at none_word ≡ Some p → value_at text at ≡ value_to 0 p
  unfolding value_at
  value-word e = past-then text at none_word (λ p. value_to 0 p) _ e

  pub value-number : past_at text at none_word ≡ None → value_at text at ≡ number_on 65535 at (drop at text)
  unfolding value_at
  value-number e = past-else text at none_word (λ p. value_to 0 p) _ e

  module _ (k : List ℕ) where
    pub entry-none : past_at text at (k ++ equals) ≡ None → entry_at text at k ≡ None
    unfolding entry_at
    entry-none e = past-else text at (k ++ equals) (λ p. ended_by text (value_at text p)) None e

    module _ {p : ℕ} (e : past_at text at (k ++ equals) ≡ Some p) where
      valued : entry_at text at k ≡ ended_by text (value_at text p)
      unfolding entry_at
      valued = past-then text at (k ++ equals) (λ p. ended_by text (value_at text p)) None e

      pub entry-bad : value_at text p ≡ None → entry_at text at k ≡ None
      entry-bad f = valued ∙ rw f

      module _ {v : Value} (f : value_at text p ≡ Some v) where
        pub entry-open : past_at text v.next line_end ≡ None → entry_at text at k ≡ None
        entry-open g = valued ∙ rw f (past-else text v.next line_end (λ q. value_to v.number q) None g)

        pub entry-ended : {q : ℕ} → past_at text v.next line_end ≡ Some q → entry_at text at k ≡ value_to v.number q
        entry-ended g = valued ∙ rw f (past-then text v.next line_end (λ q. value_to v.number q) None g)

-- how a number is read, step by step
pub ruleset number_steps = (number-none, number-digits, number-low, number-high)

-- how values and entries are read, step by step
pub ruleset entry_steps = (value-word, value-number, entry-none, entry-bad, entry-open, entry-ended)
