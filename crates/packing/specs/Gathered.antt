-- What the searches go by: the cells that a row needs, gathered in a list, and the bases that are marked.
use Rattle.std.specs.Prelude.{ℕ, ◌+◌, ◌≤◌, ◌<◌, ◌≡◌, Bool, false, not, List, get_or, length, eqb, ◌&&◌}
use Rattle.std.specs.List.{list_all}
use Rattle.cells.specs.Read.{Kind}
use Rattle.packing.specs.Job.{Act}
use Rattle.packing.specs.Bench.{Bench, used_b, free_b, needs, needs_upto}

-- the cells that are free
abbrev pub free_in : List ℕ → ℕ → Bool
free_in marks c = eqb (get_or marks c 0) 0

-- every cell of the list `need`, counted from b, passes the test φ
abbrev pub every_from : (ℕ → Bool) → ℕ → List ℕ → Bool
every_from φ b need = list_all (λ c. φ (b + c)) need

-- the cells of `need` are those that the row f needs in its columns below a
pub record Gathered (hl : ℕ → Bool) (f : ℕ → Act) (a : ℕ) (need : List ℕ) : Type 0 where
  pub all : (φ : ℕ → Bool) (b : ℕ) → every_from φ b need ≡ needs_upto φ hl f b a

-- `more` is `need` with the cells that the row f needs in column a
pub record Needed (hl : ℕ → Bool) (f : ℕ → Act) (a : ℕ) (need more : List ℕ) : Type 0 where
  pub all : (φ : ℕ → Bool) (b : ℕ) → every_from φ b more ≡ (every_from φ b need && needs φ hl f b a (f a))

-- base b is no earlier row's, and the cells of `need` are free from it
abbrev pub test_b : Bench → Kind → ℕ → List ℕ → ℕ → Bool
test_b A κ s need b = not (used_b A κ b s) && every_from (free_b A) b need

-- `used` tells of each base from 1 up, as far as it reaches, whether a state below s has it
pub record Marked (A : Bench) (κ : Kind) (s : ℕ) (used : List Bool) : Type 0 where
  pub says : (b : ℕ) → 1 ≤ b → b < length used → get_or used b false ≡ used_b A κ b s
