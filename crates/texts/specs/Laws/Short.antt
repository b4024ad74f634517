-- How long numbers and lines are at most. Assumes nothing.
use Rattle.std.specs.Prelude.{◌≡◌, refl, Bool, true, false, List, [], ◌∷◌, ◌++◌, ℕ, zero, suc, ◌+◌, ◌*◌, ◌/◌, ◌%◌, ◌^◌, ◌≤◌, ◌<◌, ltb, length}
use Rattle.std.proofs.Common.{pow-suc, arith, length-append, ltb-true, ltb-false}
use Rattle.sheets.specs.Decimal.{digit, decimal}
use Rattle.sheets.specs.Sheet.{line}
use Rattle.sheets.specs.Emit.{Room}
use Rattle.sheets.specs.Laws.Digits.{decimal-one, decimal-more}
use Rattle.sheets.specs.Laws.Entries.{line-length}
use Rattle.texts.specs.declared.pen.Pen.{Pen}
use Rattle.texts.specs.Pen.{Puts, Brief}
use Rattle.texts.specs.Laws.Pen.{then}

-- a number below 10 to the power of k + 1 has at most k + 1 digits
pub decimal-short : (k n : ℕ) → n < 10 ^ suc k → length (decimal n) ≤ suc k
decimal-short zero n h = rw (decimal-one n (omega arith)) (omega arith)
decimal-short (suc k) n h = by (ltb n 10) refl (decimal-short k (n / 10))
  where
    by : (b : Bool) → ltb n 10 ≡ b → (n / 10 < 10 ^ suc k → length (decimal (n / 10)) ≤ suc k) → length (decimal n) ≤ suc (suc k)
    by true e r = rw (decimal-one n (ltb-true n 10 e)) (omega arith)
    by false e r =
        let p : 10 ^ suc (suc k) ≡ 10 ^ suc k * 10 = pow-suc 10 (suc k) in
        let s : length (decimal (n / 10)) ≤ suc k = r (omega arith) in
        rw (decimal-more n (ltb-false n 10 e)) (omega (arith, length-append (decimal (n / 10)) (digit (n % 10) ∷ [])))

-- a number of 32 bits has at most 10
pub word-short : (n : ℕ) → n < 2 ^ 32 → length (decimal n) ≤ 10
word-short n h = decimal-short 9 n (omega arith)

-- there is room for the digits of such a number, and for a line of it with a short key
pub word_room : (at n : ℕ) → at ≤ 3000000000000 → n < 2 ^ 32 → Room at (decimal n)
word_room at n l h = record { fits = omega (arith, word-short n h) }

pub line-room : (key : List ℕ) (n : ℕ) → length key ≤ 9 → n < 2 ^ 32 → Room 0 (line key (decimal n))
line-room key n l h = record { fits = omega (arith, line-length key (decimal n), word-short n h) }

-- a line that was put ends near
pub line-place : {before after : Pen} (key : List ℕ) (n : ℕ) → length key ≤ 5 → n < 2 ^ 32 → before.at ≡ 0 → Puts before (line key (decimal n)) after → after.at ≤ 17
line-place key n l h z e = omega (arith, e.put.place, line-length key (decimal n), word-short n h)

-- ---- few bytes

module _ {before after : Pen} where
  pub digits-brief : (n : ℕ) → n < 2 ^ 32 → Puts before (decimal n) after → Brief 10 before (decimal n) after
  digits-brief n h e = record { puts = e; few = word-short n h }

  pub byte-brief : {b : ℕ} → Puts before (b ∷ []) after → Brief 1 before (b ∷ []) after
  byte-brief e = record { puts = e; few = omega arith }

  -- the place after few bytes is not far
  pub brief-place : {most : ℕ} {bytes : List ℕ} → Brief most before bytes after → after.at ≤ before.at + most
  brief-place b = omega (arith, b.puts.put.place, b.few)

pub brief-then : {before middle after : Pen} {m k : ℕ} {s t : List ℕ} → Brief m before s middle → Brief k middle t after → Brief (m + k) before (s ++ t) after
brief-then {s = s} {t = t} e f = record { puts = then e.puts f.puts; few = omega (arith, e.few, f.few, length-append s t) }

-- more is allowed
pub brief-more : {before after : Pen} {m k : ℕ} {s : List ℕ} → m ≤ k → Brief m before s after → Brief k before s after
brief-more l b = record { puts = b.puts; few = omega (arith, b.few) }

-- how few bytes are put, step by step
pub ruleset brief_steps = (word_room, digits-brief, byte-brief, brief-place, brief-then, brief-more)
