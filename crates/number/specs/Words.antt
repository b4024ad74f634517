-- What is left of unsigned numbers that are cleared.
use Rattle.std.specs.Prelude.{ℕ, ◌-◌, List, ◌++◌, length, take, replicate}

-- the first ones stay, and 0 stands in every place after them
unfoldable pub clear_of : List ℕ → ℕ → List ℕ
clear_of s from = take from s ++ replicate (length s - from) 0
