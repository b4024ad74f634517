-- Lists read backwards, and the tokens read so far. Assumes nothing.
use Rattle.std.specs.Prelude.{◌≡◌, refl, Bool, true, false, cond, ℕ, suc, ◌≤◌, ◌<◌, ltb, length, get_or, take, Some, None, List, [], ◌∷◌, ◌++◌, reverse}
use Rattle.std.proofs.Common.{ap, sym, ◌∙◌, arith, take-suc, ltb-true, ltb-false, append_assoc}
use Rattle.std.proofs.lemmas.List.{reverse-append, reverse-reverse}
use mathlib.Core.List.{reverse-cons}
use Rattle.machine.specs.Machine.{terminal as as_terminal, current}
use Rattle.soundness.specs.Derivation.{Terminals, no-terminals, terminal}

pub reverse-on : (a : ℕ) (xs w : List ℕ) → reverse (a ∷ xs) ++ w ≡ reverse xs ++ (a ∷ w)
reverse-on a xs w = ap (λ (l : List ℕ). l ++ w) (reverse-cons a xs) ∙ append_assoc (reverse xs) (a ∷ []) w

pub reverse-last : (a : ℕ) (xs : List ℕ) → reverse (xs ++ (a ∷ [])) ≡ a ∷ reverse xs
reverse-last a xs = reverse-append xs (a ∷ [])

-- a right side that was spelt backwards, read forwards
pub unspelt : (xs ys rest w : List ℕ) → xs ≡ reverse ys ++ rest → reverse xs ++ w ≡ reverse rest ++ (ys ++ w)
unspelt xs ys rest w e =
    ap (λ (l : List ℕ). l ++ w) (ap reverse e ∙ reverse-append (reverse ys) rest ∙ ap (λ (l : List ℕ). reverse rest ++ l) (reverse-reverse ys))
    ∙ append_assoc (reverse rest) ys w

-- one token more is read
pub take_on : (a i : ℕ) (tokens w : List ℕ) → i < length tokens → get_or tokens i 0 ≡ a → take (suc i) tokens ++ w ≡ take i tokens ++ (a ∷ w)
take_on a i tokens w h e =
    ap (λ (l : List ℕ). l ++ w) (take-suc tokens i 0 h ∙ ap (λ (b : ℕ). take i tokens ++ (b ∷ [])) e)
    ∙ append_assoc (take i tokens) (a ∷ []) w

-- one terminal more
pub terminals-on : {T a : ℕ} {w : List ℕ} → Terminals T w → 1 ≤ a → a < T → Terminals T (w ++ (a ∷ []))
terminals-on no-terminals lo hi = terminal lo hi no-terminals
terminals-on (terminal l h t) lo hi = terminal l h (terminals-on t lo hi)

-- the current terminal is the end mark past the last token, or a token 1..T-1
pub data At (T : ℕ) (tokens : List ℕ) (i a : ℕ) : Type 0 where
  at-end : length tokens ≤ i → a ≡ 0 → At T tokens i a
  at-token : i < length tokens → get_or tokens i 0 ≡ a → 1 ≤ a → a < T → At T tokens i a

pub current-at : (T : ℕ) (tokens : List ℕ) (i a : ℕ) → current T tokens i ≡ Some a → At T tokens i a
unfolding current
current-at T tokens i a e = at (ltb i (length tokens)) refl e
  where
    inside : i < length tokens → (p q : Bool) → ltb 0 (get_or tokens i 0) ≡ p → ltb (get_or tokens i 0) T ≡ q
        → cond p (cond q (Some (get_or tokens i 0)) None) None ≡ Some a → At T tokens i a
    inside h true true u v w =
        let k : get_or tokens i 0 ≡ a = cc in
        at-token h k (omega (arith, ltb-true 0 (get_or tokens i 0) u)) (rw (← k) (ltb-true (get_or tokens i 0) T v))
    inside h true false u v w = let z : ◌≡◌ {A = ℕ} 0 1 = cc in absurd (omega arith)
    inside h false q u v w = let z : ◌≡◌ {A = ℕ} 0 1 = cc in absurd (omega arith)

    at : (p : Bool) → ltb i (length tokens) ≡ p → cond p (as_terminal T (get_or tokens i 0)) (Some 0) ≡ Some a → At T tokens i a
    at true u w = inside (ltb-true _ _ u) (ltb 0 (get_or tokens i 0)) (ltb (get_or tokens i 0) T) refl refl w
    at false u w = let k : 0 ≡ a = cc in at-end (ltb-false _ _ u) (sym k)
