-- What holds of every element of a list, and of the default outside it. Assumes nothing.
use Rattle.std.specs.Prelude.{List, [], ◌∷◌, ℕ, zero, suc, get_or, set, replicate}

-- a store keeps it, where it holds of what is stored
pub everywhere-set : {A : Type 0} (P : A → Type 0) (l : List A) (i : ℕ) (v d : A) → P v → ((c : ℕ) → P (get_or l c d)) → (c : ℕ) → P (get_or (set l i v) c d)
everywhere-set P [] i v d p h c = h c
everywhere-set P (x ∷ l) zero v d p h zero = p
everywhere-set P (x ∷ l) zero v d p h (suc c) = h (suc c)
everywhere-set P (x ∷ l) (suc i) v d p h zero = h 0
everywhere-set P (x ∷ l) (suc i) v d p h (suc c) = everywhere-set P l i v d p (λ k. h (suc k)) c

-- it holds of a list of one value where it holds of that
pub everywhere-same : {A : Type 0} (P : A → Type 0) (n : ℕ) (v d : A) → P v → P d → (c : ℕ) → P (get_or (replicate n v) c d)
everywhere-same P zero v d p q c = q
everywhere-same P (suc n) v d p q zero = p
everywhere-same P (suc n) v d p q (suc c) = everywhere-same P n v d p q c
