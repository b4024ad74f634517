-- The place of an entry never wraps: the product of two u32, and a u32 more, is a usize. Assumes nothing.
use Rattle.std.specs.Prelude.{ℕ, ◌+◌, ◌*◌, ◌<◌, ◌≤◌, ◌^◌}
use Rattle.std.proofs.Common.{mul-le-mul, arith}

product : {a b : ℕ} → a < 2 ^ 32 → b < 2 ^ 32 → a * b ≤ 4294967295 * 4294967295
product {a} {b} h k =
    let p : a ≤ 4294967295 = omega arith in
    let q : b ≤ 4294967295 = omega arith in
    mul-le-mul p q

pub row_fits : (s m : ℕ) → s < 2 ^ 32 → m < 2 ^ 32 → s * m < 2 ^ 64
row_fits s m h k = let p : s * m ≤ 4294967295 * 4294967295 = product h k in omega arith

pub place-fits : (s m a : ℕ) → s < 2 ^ 32 → m < 2 ^ 32 → a < 2 ^ 32 → s * m + a < 2 ^ 64
place-fits s m a h k l = let p : s * m ≤ 4294967295 * 4294967295 = product h k in omega arith
