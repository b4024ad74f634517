-- What tests joined by 'and' and 'or' tell. Assumes nothing.
use Rattle.std.specs.Prelude.{◌≡◌, refl, ◌⊎◌, Bool, true, false, ◌&&◌, ◌||◌, ℕ}
use Rattle.std.proofs.Common.{inl, inr, arith}

-- a test is not passed and failed
pub clash : {b : Bool} → b ≡ true → b ≡ false → ⊥
clash p q = let z : ◌≡◌ {A = ℕ} 0 1 = cc in omega arith

pub and-true : (b : Bool) {d : Bool} → (b && d) ≡ true → (b ≡ true) × (d ≡ true)
and-true true h = (refl, h)
and-true false h = absurd (clash h refl)

pub and-false : (b : Bool) {d : Bool} → d ≡ false → (b && d) ≡ false
and-false true h = h
and-false false h = refl

pub or-true : (b : Bool) {d : Bool} → (b || d) ≡ true → (b ≡ true) ⊎ (d ≡ true)
or-true true h = inl refl
or-true false h = inr h
