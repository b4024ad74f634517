-- What is said of lists and of numbers below a bound: all, the sum, among, the lowest.
use Rattle.std.specs.Prelude.{ℕ, zero, suc, ◌+◌, Bool, true, false, not, ◌&&◌, ◌||◌, List, [], ◌∷◌, eqb, Option, Some, None}

-- every element passes the test
unfoldable pub all : (ℕ → Bool) → List ℕ → Bool
all f [] = true
all f (x ∷ l) = f x && all f l

unfoldable pub sum : List ℕ → ℕ
sum [] = 0
sum (x ∷ l) = x + sum l

-- x is one of the elements
unfoldable pub among : ℕ → List ℕ → Bool
among x [] = false
among x (y ∷ l) = eqb x y || among x l

-- what was found below n, else n if it is bad
unfoldable pub or_at : Option ℕ → Bool → ℕ → Option ℕ
or_at (Some k) b n = Some k
or_at None true n = Some n
or_at None false n = None

-- the lowest number below n that is not good
unfoldable pub lowest : (ℕ → Bool) → ℕ → Option ℕ
lowest good zero = None
lowest good (suc n) = or_at (lowest good n) (not (good n)) n
