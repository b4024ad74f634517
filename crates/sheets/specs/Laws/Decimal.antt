-- The digits of a number are those of its tenth, and then the last one. Assumes nothing.
use Rattle.std.specs.Prelude.{◌≡◌, refl, Bool, true, false, ℕ, zero, suc, ◌/◌, ◌≤◌, ◌<◌, ltb}
use Rattle.std.proofs.Common.{arith, ltb-false}
use Rattle.std.proofs.Math.Nat.{div-lt_self}
use Rattle.sheets.specs.Decimal.{last_after, digits, decimal}

-- more room than digits changes nothing
pub digits-enough : (k j n : ℕ) → n < k → n < j → digits k n ≡ digits j n
unfolding digits
digits-enough zero j n h g = absurd (omega arith)
digits-enough (suc k) zero n h g = absurd (omega arith)
digits-enough (suc k) (suc j) n h g = by (ltb n 10) refl (λ l. digits-enough k j (n / 10) (omega (arith, smaller l)) (omega (arith, smaller l)))
  where
    smaller : 10 ≤ n → n / 10 < n
    smaller l = div-lt_self (omega arith) (omega arith)

    by : (b : Bool) → ltb n 10 ≡ b → (10 ≤ n → digits k (n / 10) ≡ digits j (n / 10)) → last_after (digits k) n b ≡ last_after (digits j) n b
    by true e r = refl
    by false e r = rw (r (ltb-false n 10 e))

pub decimal_step : (n : ℕ) → decimal n ≡ last_after decimal n (ltb n 10)
unfolding decimal digits
decimal_step n = by (ltb n 10) refl
  where
    by : (b : Bool) → ltb n 10 ≡ b → last_after (digits n) n b ≡ last_after decimal n b
    by true e = refl
    by false e =
        let l : 10 ≤ n = ltb-false n 10 e in
        let s : n / 10 < n = div-lt_self (omega arith) (omega arith) in
        rw (digits-enough n (suc (n / 10)) (n / 10) s (omega arith))
