-- What the grammar derives.
use Rattle.std.specs.Prelude.{List, [], ◌∷◌, ◌++◌, ℕ, ◌≤◌, ◌<◌}
use Rattle.tables.specs.Grammar.{Grammar}

-- all are terminals 1..n-1
pub data Terminals (n : ℕ) : List ℕ → Type 0 where
  no-terminals : Terminals n []
  terminal : {a : ℕ} {w : List ℕ} → 1 ≤ a → a < n → Terminals n w → Terminals n (a ∷ w)

-- from u, replacing each time the last nonterminal, by the rules rs in turn, one comes to v
pub data Rightmost (g : Grammar) : List ℕ → List ℕ → List ℕ → Type 0 where
  nothing_left : {u : List ℕ} → Rightmost g u [] u
  replace : {rs v : List ℕ} (u : List ℕ) (r : ℕ) (w : List ℕ) → 1 ≤ r → r ≤ g.G → Terminals g.T w
      → Rightmost g (u ++ (g.right r ++ w)) rs v → Rightmost g (u ++ (g.left r ∷ w)) (r ∷ rs) v
