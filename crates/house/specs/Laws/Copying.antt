-- A list that another is copied to from the front on. Assumes nothing.
use Rattle.std.specs.Prelude.{◌≡◌, refl, List, ℕ, ◌+◌, ◌≤◌, ◌<◌, length, get_or, set, take}
use Rattle.std.proofs.Common.{sym, ◌∙◌, arith, add-one, length-set, take_all, take-suc, take-suc-set}

-- the first i places of to hold those of from
pub record Copying {A : Type 0} (from to : List A) (i : ℕ) : Type 0 where
  pub sized : length to ≡ length from
  pub upto : i ≤ length from
  pub same : take i to ≡ take i from

module _ {A : Type 0} where
  pub copying-none : (from to : List A) → length from ≡ length to → Copying from to 0
  copying-none from to e = record { sized = sym e; upto = omega arith; same = refl }

  pub copying-more : {from to : List A} {i : ℕ} (d : A) → Copying from to i → i < length from → Copying from (set to i (get_or from i d)) (i + 1)
  copying-more {from = from} {to = to} {i = i} d c h =
      let room : i < length to = omega (arith, c.sized) in
      record {
        sized = simp length-set c.sized;
        upto = omega arith;
        same = rw (add-one, take-suc-set to i (get_or from i d) room, take-suc from i d h, c.same);
      }

  pub copying-all : {from to : List A} {i : ℕ} → Copying from to i → length from ≤ i → to ≡ from
  copying-all {from = from} {to = to} {i = i} c h =
      sym (take_all i to (omega (arith, c.sized))) ∙ c.same ∙ take_all i from h
