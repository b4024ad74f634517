-- Bytes put into a buffer one after the other; those that would fall outside are left out, so that a buffer of no bytes only has them counted.
use Rattle.std.specs.Prelude.{◌≡◌, List, ℕ, ◌+◌, ◌^◌, ◌<◌, length}
use Rattle.std.proofs.lemmas.List.Edits.{sets}

-- the place after bytes that begin at `at` is a number of the machine
pub record Room (at : ℕ) (bytes : List ℕ) : Type 0 where
  pub fits : at + length bytes < 2 ^ 64

-- bytes were put from `at` on, up to a place
pub record Emitted (before : List ℕ) (at : ℕ) (bytes : List ℕ) (to : ℕ) (after : List ℕ) : Type 0 where
  pub place : to ≡ at + length bytes
  pub stored : after ≡ sets before at bytes
