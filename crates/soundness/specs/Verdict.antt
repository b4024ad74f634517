-- 'The table check': its conditions, and its verdict.
use Rattle.std.specs.Prelude.{◌≡◌, ◌≢◌, ◌⊎◌, List, ◌∷◌, ◌++◌, reverse, ℕ, ◌<◌, length, drop}
use Rattle.tables.specs.Grammar.{Grammar}
use Rattle.reads.specs.Reads.{reduce, accept, nowhere, Reads}
use Rattle.soundness.specs.Path.{PathTo}

-- row s reduces by rule r; accept is rule 1
pub data Reduces (g : Grammar) (m : Reads) (s : ℕ) : ℕ → Type 0 where
  by-rule : {r : ℕ} (a : ℕ) → a < g.T → m.act s a ≡ reduce r → Reduces g m s r
  by-accept : (a : ℕ) → a < g.T → m.act s a ≡ accept → Reduces g m s 1

-- the path to s has at least as many edges as r has symbols on its right; the last ones spell them;
-- for rule 1 the state before them is 0; for r above 1 its goto on r's left side is not blank
pub record Handle (g : Grammar) (m : Reads) (r s : ℕ) (ss xs : List ℕ) : Type 0 where
  pub rest : List ℕ
  pub spelt : xs ≡ reverse (g.right r) ++ rest
  pub before : ℕ
  pub earlier : List ℕ
  pub left_there : drop (length (g.right r)) (s ∷ ss) ≡ before ∷ earlier
  pub ends : r ≡ 1 → before ≡ 0
  pub leads : r ≢ 1 → m.go before (g.left r) ≢ nowhere

-- every path keeps the conditions; u is the unsigned table, v the filled one
abbrev pub Sound : Grammar → Reads → Reads → Type 0
Sound g u v = (r s : ℕ) (ss xs : List ℕ) → PathTo g u s ss xs → Reduces g v s r → Handle g u r s ss xs

-- what the check finds
pub data Verdict : Type 0 where
  sound : Verdict
  unsound : ℕ → ℕ → Verdict

-- a path to s breaks a condition for r, and no lesser state and then rule has one
pub record Unsound (g : Grammar) (u v : Reads) (s r : ℕ) : Type 0 where
  pub reduces : Reduces g v s r
  pub states : List ℕ
  pub symbols : List ℕ
  pub path : PathTo g u s states symbols
  pub fails : Handle g u r s states symbols → ⊥
  pub least : (q p : ℕ) → Reduces g v p q → (p < s) ⊎ ((p ≡ s) × (q < r))
      → (ss xs : List ℕ) → PathTo g u p ss xs → Handle g u q p ss xs

abbrev pub IsVerdict : Grammar → Reads → Reads → Verdict → Type 0
IsVerdict g u v sound = Sound g u v
IsVerdict g u v (unsound s r) = Unsound g u v s r
