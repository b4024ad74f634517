-- What the check does with lists: those that pass a test, and lists joined.
use Rattle.std.specs.Prelude.{Bool, true, false, List, [], ◌∷◌, ◌++◌, ℕ, zero, suc}

module _ {A : Type 0} where
  -- the element, if it passed
  unfoldable pub kept : Bool → A → List A → List A
  kept true x xs = x ∷ xs
  kept false x xs = xs

  -- those that pass the test
  unfoldable pub those : (A → Bool) → List A → List A
  those test [] = []
  those test (x ∷ xs) = kept (test x) x (those test xs)

  -- the lists of all numbers below n, joined
  unfoldable pub collect : (ℕ → List A) → ℕ → List A
  collect f zero = []
  collect f (suc n) = f n ++ collect f n
