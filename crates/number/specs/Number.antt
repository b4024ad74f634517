-- A machine number taken apart by its sign, and made again.
use Rattle.std.specs.Prelude.{ℕ, suc, Bool, false, cond, leb, eqb, ℤ, pos, negsuc, neg_ℤ}
use Rattle.number.specs.declared.Signed.{Signed}
use Rattle.number.specs.declared.Signed.TheVariants.{Plus, Minus}

-- not negative: the number itself; negative: what it is the negative of
abbrev pub sign_of : ℤ → Signed
sign_of (pos n) = Plus n
sign_of (negsuc n) = Minus (suc n)

-- the number with this sign, 0 where an i32 cannot hold it
abbrev pub number_of : Signed → ℤ
number_of (Plus n) = cond (leb n 2147483647) (pos n) (pos 0)
number_of (Minus n) = cond (leb n 2147483648) (neg_ℤ (pos n)) (pos 0)

-- the number is n
abbrev pub is_plus : Signed → ℕ → Bool
is_plus (Plus m) n = eqb m n
is_plus (Minus m) n = false

-- the number itself, 0 where it is negative
abbrev pub plus_of : ℤ → ℕ
plus_of (pos n) = n
plus_of (negsuc n) = 0
