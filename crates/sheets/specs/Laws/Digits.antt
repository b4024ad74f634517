-- A number in digits is read back, and what is read as a number is that number in digits. Assumes nothing.
use Rattle.std.specs.Prelude.{◌≡◌, Bool, Some, None, ltb, leb, refl, true, false, cond, List, [], ◌∷◌, ◌++◌, ℕ, zero, suc, ◌+◌, ◌-◌, ◌*◌, ◌/◌, ◌%◌, ◌≤◌, ◌<◌, length}
use Rattle.std.proofs.Common.{ap, sym, ◌∙◌, div-add-mod', length-append, append_assoc, append-nil, arith, lt-ltb, le-ltb, le-leb, ltb-true, ltb-false}
use Rattle.tables.specs.Size.{is_within}
use Rattle.tables.specs.Laws.Size.{Within, within}
use Rattle.sheets.specs.declared.Value.{Value}
use Rattle.sheets.specs.Decimal.{digit, decimal}
use Rattle.sheets.specs.Lines.{value_to, digits_on, number_on}
use Rattle.sheets.specs.Laws.Decimal.{decimal_step}

-- ---- one digit more

-- the digit d after digits that write n
digit-on : (most n at d : ℕ) (t : List ℕ) → d < 10 → n * 10 + d ≤ most → digits_on most n at (digit d ∷ t) ≡ digits_on most (n * 10 + d) (at + 1) t
unfolding digits_on
digit-on most n at d t h l =
    let e : 48 + d - 48 ≡ d = omega arith in
    rw (le-leb 48 (48 + d) (omega arith), le-leb (48 + d) 57 (omega arith), e, le-leb (n * 10 + d) most l)

pub decimal-one : (n : ℕ) → n < 10 → decimal n ≡ digit n ∷ []
decimal-one n h = decimal_step n ∙ rw (lt-ltb n 10 h)

pub decimal-more : (n : ℕ) → 10 ≤ n → decimal n ≡ decimal (n / 10) ++ (digit (n % 10) ∷ [])
decimal-more n h = decimal_step n ∙ rw (le-ltb n 10 h)

-- n with the digit d behind it
decimal-snoc : (n d : ℕ) → 1 ≤ n → d < 10 → decimal (n * 10 + d) ≡ decimal n ++ (digit d ∷ [])
decimal-snoc n d l h =
    let q : (n * 10 + d) / 10 ≡ n = omega arith in
    let r : (n * 10 + d) % 10 ≡ d = omega arith in
    decimal-more (n * 10 + d) (omega arith) ∙ rw (q, r)

-- ---- read back

-- k is fuel: any number above n
digits-back : (most k n at : ℕ) (t : List ℕ) → n < k → n ≤ most → digits_on most 0 at (decimal n ++ t) ≡ digits_on most n (at + length (decimal n)) t
digits-back most zero n at t h l = absurd (omega arith)
digits-back most (suc k) n at t h l = by (ltb n 10) refl (λ s. digits-back most k (n / 10) at (digit (n % 10) ∷ t) s (omega arith))
  where
    by : (b : Bool) → ltb n 10 ≡ b
        → (n / 10 < k → digits_on most 0 at (decimal (n / 10) ++ (digit (n % 10) ∷ t)) ≡ digits_on most (n / 10) (at + length (decimal (n / 10))) (digit (n % 10) ∷ t))
        → digits_on most 0 at (decimal n ++ t) ≡ digits_on most n (at + length (decimal n)) t
    by true e r =
        let z : 0 * 10 + n ≡ n = omega arith in
        rw (decimal-one n (ltb-true n 10 e)) (digit-on most 0 at n t (ltb-true n 10 e) (omega arith) ∙ ap (λ (m : ℕ). digits_on most m (at + 1) t) z)
    by false e r =
        let g : 10 ≤ n = ltb-false n 10 e in
        let s : n / 10 < k = omega arith in
        let m : n % 10 < 10 = omega arith in
        let v : n / 10 * 10 + n % 10 ≡ n = div-add-mod' n 10 in
        let w : at + (length (decimal (n / 10)) + 1) ≡ at + length (decimal (n / 10)) + 1 = omega arith in
        rw (decimal-more n g, append_assoc (decimal (n / 10)) (digit (n % 10) ∷ []) t, r s, digit-on most (n / 10) (at + length (decimal (n / 10))) (n % 10) t m (omega arith), length-append (decimal (n / 10)) (digit (n % 10) ∷ []), w, v)

-- the first digit of a number from 1 up is not 0
pub record First (n : ℕ) : Type 0 where
  pub first : ℕ
  pub others : List ℕ
  pub least : 1 ≤ first
  pub most : first < 10
  pub whole : decimal n ≡ digit first ∷ others

-- k is fuel: any number above n
first_by : (k n : ℕ) → n < k → 1 ≤ n → First n
first_by zero n h l = absurd (omega arith)
first_by (suc k) n h l = by (ltb n 10) refl (λ s g. first_by k (n / 10) s g)
  where
    by : (b : Bool) → ltb n 10 ≡ b → (n / 10 < k → 1 ≤ n / 10 → First (n / 10)) → First n
    by true e r = record { first = n; others = []; least = l; most = ltb-true n 10 e; whole = decimal-one n (ltb-true n 10 e) }
    by false e r =
        let g : 10 ≤ n = ltb-false n 10 e in
        let f : First (n / 10) = r (omega arith) (omega arith) in
        record {
          first = f.first;
          others = f.others ++ (digit (n % 10) ∷ []);
          least = f.least;
          most = f.most;
          whole = decimal-more n g ∙ ap (λ (l : List ℕ). l ++ (digit (n % 10) ∷ [])) f.whole;
        }

pub first-of : (n : ℕ) → 1 ≤ n → First n
first-of n l = first_by (suc n) n (omega arith) l

number-opens : (most at d : ℕ) (t : List ℕ) → 1 ≤ d → d < 10 → number_on most at (digit d ∷ t) ≡ digits_on most 0 at (digit d ∷ t)
unfolding number_on
number-opens most at d t l h = rw (le-leb 49 (48 + d) (omega arith), le-leb (48 + d) 57 (omega arith))

-- a number 1..most is read back
pub number-back : (most n at : ℕ) (t : List ℕ) → 1 ≤ n → n ≤ most → number_on most at (decimal n ++ t) ≡ digits_on most n (at + length (decimal n)) t
number-back most n at t l h = by (first-of n l) ∙ digits-back most (suc n) n at t (omega arith) h
  where
    by : First n → number_on most at (decimal n ++ t) ≡ digits_on most 0 at (decimal n ++ t)
    by f = rw f.whole (number-opens most at f.first (f.others ++ t) f.least f.most)

-- ---- and only that

-- bytes of t that were read as v, after digits that write n, from `at` up to p
record Digits (v n at p : ℕ) (t : List ℕ) : Type 0 where
  pub bytes : List ℕ
  pub rest : List ℕ
  pub split : t ≡ bytes ++ rest
  pub place : p ≡ at + length bytes
  pub written : decimal v ≡ decimal n ++ bytes
  pub some : 1 ≤ v

same-value : {v w : Value} → Some v ≡ Some w → v ≡ w
same-value e = cc

pub is-value : {v w p q : ℕ} → value_to v p ≡ value_to w q → v ≡ w
is-value e = ap (λ (u : Value). u.number) (same-value e)

pub is-place : {v w p q : ℕ} → value_to v p ≡ value_to w q → p ≡ q
is-place e = ap (λ (u : Value). u.next) (same-value e)

pub bad-is : {v p : ℕ} → None ≡ value_to v p → ⊥
bad-is e = let z : ◌≡◌ {A = ℕ} 0 1 = cc in omega arith

module _ (most v p : ℕ) where
  -- no digit more
  no_more : (n at : ℕ) (t : List ℕ) → 1 ≤ n → value_to n at ≡ value_to v p → Digits v n at p t
  no_more n at t l e =
      let a : n ≡ v = is-value e in
      let b : at ≡ p = is-place e in
      record {
        bytes = [];
        rest = t;
        split = refl;
        place = omega arith;
        written = ap decimal (sym a) ∙ sym (append-nil (decimal n));
        some = omega arith;
      }

  -- the digit c, and then others
  one_more : (n at c : ℕ) (t : List ℕ) → 1 ≤ n → Within 48 57 c → Digits v (n * 10 + (c - 48)) (at + 1) p t → Digits v n at p (c ∷ t)
  one_more n at c t l w d =
      let low : 48 ≤ c = w.least in
      let high : c ≤ 57 = w.most in
      let e : 48 + (c - 48) ≡ c = omega arith in
      let f : decimal (n * 10 + (c - 48)) ≡ decimal n ++ (c ∷ []) = decimal-snoc n (c - 48) l (omega arith) ∙ ap (λ (x : ℕ). decimal n ++ (x ∷ [])) e in
      record {
        bytes = c ∷ d.bytes;
        rest = d.rest;
        split = ap (λ (r : List ℕ). c ∷ r) d.split;
        place = let g : p ≡ at + 1 + length d.bytes = d.place in omega arith;
        written = d.written ∙ ap (λ (r : List ℕ). r ++ d.bytes) f ∙ append_assoc (decimal n) (c ∷ []) d.bytes;
        some = d.some;
      }

  digits-only : (n at : ℕ) (t : List ℕ) → 1 ≤ n → digits_on most n at t ≡ value_to v p → Digits v n at p t
  unfolding digits_on
  digits-only n at [] l e = no_more n at [] l e
  digits-only n at (c ∷ t) l e = by (is_within 48 57 c) refl (leb (n * 10 + (c - 48)) most) (λ g h. digits-only (n * 10 + (c - 48)) (at + 1) t g h) e
    where
      by : (b : Bool) → is_within 48 57 c ≡ b → (d : Bool)
          → (1 ≤ n * 10 + (c - 48) → digits_on most (n * 10 + (c - 48)) (at + 1) t ≡ value_to v p → Digits v (n * 10 + (c - 48)) (at + 1) p t)
          → cond b (cond d (digits_on most (n * 10 + (c - 48)) (at + 1) t) None) (value_to n at) ≡ value_to v p
          → Digits v n at p (c ∷ t)
      by false w d r q = no_more n at (c ∷ t) l q
      by true w false r q = absurd (bad-is q)
      by true w true r q = one_more n at c t l (within 48 57 c w) (r (omega arith) q)

-- bytes of t that were read as v, from `at` up to p: they are v in digits
pub record Number (v at p : ℕ) (t : List ℕ) : Type 0 where
  pub rest : List ℕ
  pub split : t ≡ decimal v ++ rest
  pub place : p ≡ at + length (decimal v)
  pub some : 1 ≤ v

module _ (most v at p : ℕ) where
  first-only : (c : ℕ) (t : List ℕ) → Within 49 57 c → digits_on most 0 at (c ∷ t) ≡ value_to v p → Number v at p (c ∷ t)
  unfolding digits_on
  first-only c t w e =
      let low : 49 ≤ c = w.least in
      let high : c ≤ 57 = w.most in
      let z : 0 * 10 + (c - 48) ≡ c - 48 = omega arith in
      let k : 48 + (c - 48) ≡ c = omega arith in
      let one : decimal (c - 48) ≡ c ∷ [] = decimal-one (c - 48) (omega arith) ∙ ap (λ (x : ℕ). x ∷ []) k in
      by one (leb (c - 48) most) (rw (le-leb 48 c (omega arith), le-leb c 57 high, z) at e)
    where
      whole : decimal (c - 48) ≡ c ∷ [] → Digits v (c - 48) (at + 1) p t → Number v at p (c ∷ t)
      whole one d =
          let f : decimal v ≡ c ∷ d.bytes = d.written ∙ ap (λ (r : List ℕ). r ++ d.bytes) one in
          record {
            rest = d.rest;
            split = ap (λ (r : List ℕ). c ∷ r) d.split ∙ ap (λ (r : List ℕ). r ++ d.rest) (sym f);
            place = let g : p ≡ at + 1 + length d.bytes = d.place in let s : length (decimal v) ≡ suc (length d.bytes) = ap length f in omega arith;
            some = d.some;
          }

      by : decimal (c - 48) ≡ c ∷ [] → (b : Bool) → cond b (digits_on most (c - 48) (at + 1) t) None ≡ value_to v p → Number v at p (c ∷ t)
      by one true q = whole one (digits-only most v p (c - 48) (at + 1) t (omega (arith, w.least)) q)
      by one false q = absurd (bad-is q)

  pub number-only : (t : List ℕ) → number_on most at t ≡ value_to v p → Number v at p t
  unfolding number_on
  number-only [] e = absurd (bad-is e)
  number-only (c ∷ t) e = by (is_within 49 57 c) refl e
    where
      by : (b : Bool) → is_within 49 57 c ≡ b → cond b (digits_on most 0 at (c ∷ t)) None ≡ value_to v p → Number v at p (c ∷ t)
      by true w q = first-only c t (within 49 57 c w) q
      by false w q = absurd (bad-is q)
