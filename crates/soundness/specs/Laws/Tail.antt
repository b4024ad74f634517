-- A path whose last symbols are given, and one that fails at them.
use Rattle.std.specs.Prelude.{◌≡◌, refl, List, [], ◌∷◌, ◌++◌, ℕ, length, drop}
use Rattle.tables.specs.Grammar.{Grammar}
use Rattle.reads.specs.Reads.{Reads}
use Rattle.soundness.specs.Path.{PathTo}

-- the symbols xs (the last first) begin with ys, and F holds of the state where those begin
pub record Tail (F : ℕ → Type 0) (ys : List ℕ) (s : ℕ) (ss xs : List ℕ) : Type 0 where
  pub rest : List ℕ
  pub spelt : xs ≡ ys ++ rest
  pub before : ℕ
  pub earlier : List ℕ
  pub left_there : drop (length ys) (s ∷ ss) ≡ before ∷ earlier
  pub holds : F before

pub tail-nil : (F : ℕ → Type 0) (s : ℕ) (ss xs : List ℕ) → F s → Tail F [] s ss xs
tail-nil F s ss xs h = record { rest = xs; spelt = refl; before = s; earlier = ss; left_there = refl; holds = h }

pub tail-nil⁻ : (F : ℕ → Type 0) (s : ℕ) (ss xs : List ℕ) → Tail F [] s ss xs → F s
tail-nil⁻ F s ss xs t = let e : s ∷ ss ≡ t.before ∷ t.earlier = t.left_there in let q : s ≡ t.before = cc in rw q t.holds

pub tail-cons : (F : ℕ → Type 0) (x y : ℕ) (ys : List ℕ) (s p : ℕ) (ss xs : List ℕ) → x ≡ y → Tail F ys p ss xs → Tail F (y ∷ ys) s (p ∷ ss) (x ∷ xs)
tail-cons F x y ys s p ss xs e t =
    let q : xs ≡ ys ++ t.rest = t.spelt in
    record { rest = t.rest; spelt = cc; before = t.before; earlier = t.earlier; left_there = t.left_there; holds = t.holds }

pub tail-cons⁻ : (F : ℕ → Type 0) (x y : ℕ) (ys : List ℕ) (s p : ℕ) (ss xs : List ℕ) → Tail F (y ∷ ys) s (p ∷ ss) (x ∷ xs) → (x ≡ y) × Tail F ys p ss xs
tail-cons⁻ F x y ys s p ss xs t =
    let q : x ∷ xs ≡ y ∷ (ys ++ t.rest) = t.spelt in
    (cc, record { rest = t.rest; spelt = cc; before = t.before; earlier = t.earlier; left_there = t.left_there; holds = t.holds })

-- a path into s that fails
pub record Failing (g : Grammar) (m : Reads) (F : ℕ → Type 0) (ys : List ℕ) (s : ℕ) : Type 0 where
  pub states : List ℕ
  pub symbols : List ℕ
  pub path : PathTo g m s states symbols
  pub fails : Tail F ys s states symbols → ⊥
