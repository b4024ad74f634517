-- The edges of a table, and the paths of edges from state 0.
use Rattle.std.specs.Prelude.{◌≡◌, List, [], ◌∷◌, ℕ, ◌≤◌, ◌<◌}
use Rattle.tables.specs.Grammar.{Grammar}
use Rattle.reads.specs.Reads.{shift, goes, Reads}

-- an edge from s on x to t: a shift or a goto
pub data Edge (g : Grammar) (m : Reads) (s x t : ℕ) : Type 0 where
  by-shift : x < g.T → m.act s x ≡ shift t → Edge g m s x t
  by-goto : g.T ≤ x → x < g.M → m.go s x ≡ goes t → Edge g m s x t

-- a path from state 0 to a state: the states before it, and the symbols of the edges, the last first
pub data PathTo (g : Grammar) (m : Reads) : ℕ → List ℕ → List ℕ → Type 0 where
  here : PathTo g m 0 [] []
  along : {s x t : ℕ} {ss xs : List ℕ} → Edge g m s x t → PathTo g m s ss xs → PathTo g m t (s ∷ ss) (x ∷ xs)

-- some path leads to s
pub record Reach (g : Grammar) (m : Reads) (s : ℕ) : Type 0 where
  pub states : List ℕ
  pub symbols : List ℕ
  pub path : PathTo g m s states symbols
