-- Numbers in digits, without leading zeros.
use Rattle.std.specs.Prelude.{ℕ, zero, suc, ◌+◌, ◌/◌, ◌%◌, Bool, true, false, List, [], ◌∷◌, ◌++◌, ltb}

-- the byte of a digit
abbrev pub digit : ℕ → ℕ
digit d = 48 + d

-- one digit, or the digits of n / 10 and then the last one
abbrev pub last_after : (ℕ → List ℕ) → ℕ → Bool → List ℕ
last_after f n true = digit n ∷ []
last_after f n false = f (n / 10) ++ (digit (n % 10) ∷ [])

-- the digits of n, of which there are at most k
unfoldable pub digits : ℕ → ℕ → List ℕ
digits zero n = []
digits (suc k) n = last_after (digits k) n (ltb n 10)

-- n in digits; n + 1 of them are always enough
unfoldable pub decimal : ℕ → List ℕ
decimal n = digits (suc n) n
