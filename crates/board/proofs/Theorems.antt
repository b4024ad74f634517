-- What is worked on the small board. The theorem is proved by one application of a law; Asked and Worked have the definitions. Assumes nothing.
use Rattle.std.specs.Prelude.{◌≡◌}
use mathlib.Core.List.{Memᴰ}
use Rattle.board.specs.Asked.{answered}
use Rattle.board.specs.Worked.{Case, cases}
use Rattle.board.proofs.Worked.{every-case}

-- P1 to P12: what is asked in each case of the table is answered as the table says.
pub worked : (c : Case) → Memᴰ c cases → answered c.asked ≡ c.answer
worked = every-case
