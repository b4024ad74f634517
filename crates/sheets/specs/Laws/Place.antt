-- Bytes that stand at a place: one after the other, and looked for byte by byte. Assumes nothing.
use Rattle.std.specs.Prelude.{◌≡◌, Bool, ◌&&◌, Some, None, ℕ, ◌+◌, ◌/◌, ◌%◌, ◌≤◌, ◌<◌, eqb, refl, true, false, cond, List, [], ◌∷◌, ◌++◌, length, drop}
use Rattle.std.proofs.Common.{ap, sym, ◌∙◌, drop-drop, lt-ltb, le-ltb, arith, length-append}
use Rattle.std.specs.List.{starts_with}
use Rattle.sheets.specs.Decimal.{digit, decimal}
use Rattle.sheets.specs.Sheet.{equals, line_end, line}
use Rattle.sheets.specs.Lines.{begins, stands}
use Rattle.sheets.specs.Walk.{past_at}
use Rattle.sheets.specs.Laws.Decimal.{decimal_step}

none-some : {p : ℕ} → None ≡ Some p → ⊥
none-some e = let z : ◌≡◌ {A = ℕ} 0 1 = cc in omega arith

-- ---- one after the other

pub begins-append : (a b t : List ℕ) → begins (a ++ b) t ≡ (begins a t && begins b (drop (length a) t))
unfolding begins
begins-append [] b t = refl
begins-append (x ∷ a) b [] = refl
begins-append (x ∷ a) b (c ∷ t) = by (eqb x c) (begins-append a b t)
  where
    by : (d : Bool) → begins (a ++ b) t ≡ (begins a t && begins b (drop (length a) t))
        → (d && begins (a ++ b) t) ≡ ((d && begins a t) && begins b (drop (length a) t))
    by true e = e
    by false e = refl

module _ (text : List ℕ) (at : ℕ) (a b : List ℕ) where
  pub stands-append : stands text at (a ++ b) ≡ (stands text at a && stands text (at + length a) b)
  unfolding stands
  stands-append = begins-append a b (drop at text) ∙ ap (λ (t : List ℕ). begins a (drop at text) && begins b t) (drop-drop (length a) at text)

-- where bytes stand or not, the place after them
past-stands : (text : List ℕ) (at : ℕ) (k : List ℕ) {p : ℕ} → past_at text at k ≡ Some p → (stands text at k ≡ true) × (at + length k ≡ p)
unfolding past_at
past-stands text at k {p} e = by (stands text at k) refl e
  where
    by : (d : Bool) → stands text at k ≡ d → cond d (Some (at + length k)) None ≡ Some p → (stands text at k ≡ true) × (at + length k ≡ p)
    by true s q = (s, cc)
    by false s q = absurd (none-some q)

past-fails : (text : List ℕ) (at : ℕ) (k : List ℕ) → past_at text at k ≡ None → stands text at k ≡ false
unfolding past_at
past-fails text at k e = by (stands text at k) refl e
  where
    by : (d : Bool) → stands text at k ≡ d → cond d (Some (at + length k)) None ≡ None → stands text at k ≡ false
    by true s q = absurd (none-some (sym q))
    by false s q = s

module _ (text : List ℕ) (at : ℕ) (k : List ℕ) {A : Type 0} (f : ℕ → A) (y : A) where
  -- what is made of the place after them
  pub past-then : {p : ℕ} → past_at text at k ≡ Some p → cond (stands text at k) (f (at + length k)) y ≡ f p
  past-then e = rw ((past-stands text at k e).0, (past-stands text at k e).1)

  pub past-else : past_at text at k ≡ None → cond (stands text at k) (f (at + length k)) y ≡ y
  past-else e = rw (past-fails text at k e)

module _ (text : List ℕ) (at : ℕ) (a b : List ℕ) where
  -- bytes one after the other are looked for one after the other
  pub past-first : past_at text at a ≡ None → past_at text at (a ++ b) ≡ None
  unfolding past_at
  past-first e = rw (stands-append text at a b, past-fails text at a e)

  pub past-next : {p : ℕ} → past_at text at a ≡ Some p → past_at text at (a ++ b) ≡ past_at text p b
  unfolding past_at
  past-next {p} e =
      let s = past-stands text at a e in
      let l : at + (length a + length b) ≡ p + length b = omega (arith, s.1) in
      rw (stands-append text at a b, s.0, s.1, length-append a b, l)

-- ---- a line: its key, `=`, its value, LF

module _ (text : List ℕ) (at : ℕ) (key v : List ℕ) where
  pub line-none : past_at text at key ≡ None → past_at text at (line key v) ≡ None
  unfolding line
  line-none e = past-first text at key (equals ++ (v ++ line_end)) e

  module _ {p : ℕ} (e : past_at text at key ≡ Some p) where
    keyed : past_at text at (line key v) ≡ past_at text p (equals ++ (v ++ line_end))
    unfolding line
    keyed = past-next text at key (equals ++ (v ++ line_end)) e

    pub line-open : past_at text p equals ≡ None → past_at text at (line key v) ≡ None
    line-open f = keyed ∙ past-first text p equals (v ++ line_end) f

    module _ {q : ℕ} (f : past_at text p equals ≡ Some q) where
      pub line-other : past_at text q v ≡ None → past_at text at (line key v) ≡ None
      line-other g = keyed ∙ past-next text p equals (v ++ line_end) f ∙ past-first text q v line_end g

      pub line-valued : {r : ℕ} → past_at text q v ≡ Some r → past_at text at (line key v) ≡ past_at text r line_end
      line-valued g = keyed ∙ past-next text p equals (v ++ line_end) f ∙ past-next text q v line_end g

-- ---- as code looks for them

-- the bytes that a text begins with, as std compares them
begins-with : (k t : List ℕ) → begins k t ≡ starts_with eqb t k
unfolding begins
begins-with [] t = refl
begins-with (b ∷ k) [] = refl
begins-with (b ∷ k) (c ∷ t) = ap (λ (r : Bool). eqb b c && r) (begins-with k t)

module _ (text : List ℕ) (at : ℕ) (k : List ℕ) {b : Bool} (e : b ≡ starts_with eqb (drop at text) k) where
  found_at : past_at text at k ≡ cond b (Some (at + length k)) None
  unfolding past_at stands
  found_at = rw (begins-with k (drop at text), e)

  pub found : b ≡ true → past_at text at k ≡ Some (at + length k)
  found h = found_at ∙ rw h

  pub missing : b ≡ false → past_at text at k ≡ None
  missing h = found_at ∙ rw h

-- ---- the digits of a number

module _ (text : List ℕ) (at n : ℕ) where
  pub past-digit : n < 10 → past_at text at (decimal n) ≡ past_at text at (digit n ∷ [])
  past-digit h = rw (decimal_step n, lt-ltb n 10 h)

  pub past-tenth : 10 ≤ n → past_at text at (decimal (n / 10)) ≡ None → past_at text at (decimal n) ≡ None
  past-tenth h e = rw (decimal_step n, le-ltb n 10 h) (past-first text at (decimal (n / 10)) (digit (n % 10) ∷ []) e)

  pub past-last : {p : ℕ} → 10 ≤ n → past_at text at (decimal (n / 10)) ≡ Some p → past_at text at (decimal n) ≡ past_at text p (digit (n % 10) ∷ [])
  past-last h e = rw (decimal_step n, le-ltb n 10 h) (past-next text at (decimal (n / 10)) (digit (n % 10) ∷ []) e)

-- how bytes are looked for, step by step
pub ruleset past_steps = (past-first, past-next, past-digit, past-tenth, past-last, line-none, line-open, line-other, line-valued)
