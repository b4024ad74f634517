-- What clearing leaves. Assumes nothing.
use Rattle.std.specs.Prelude.{◌≡◌, List, ℕ, ◌-◌, length, replicate}
use Rattle.std.proofs.Common.{arith}
use Rattle.number.specs.Words.{clear_of}

-- from the first place on, all of it
pub clear-all : (s : List ℕ) → clear_of s 0 ≡ replicate (length s) 0
unfolding clear_of
clear-all s =
    let e : length s - 0 ≡ length s = omega arith in
    rw e
