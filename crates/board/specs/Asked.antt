-- What is asked of a board, and what the definitions answer that the contracts cite.
use Rattle.std.specs.Prelude.{ℕ, List, replicate, pos}
use Rattle.tables.specs.Said.{Said}
use Rattle.packing.specs.Bench.{Bench}
use Rattle.packing.specs.Written.{bench}
use Rattle.packing.specs.Packing.{Result, packed}
use Rattle.machine.specs.Outcome.{Outcome, plain_parse}
use Rattle.parser.specs.Outcome.{packed_parse}
use Rattle.soundness.specs.Outcome.{checked}
use Rattle.board.specs.declared.Board.{Board}

-- the move limit, and the lengths of stack and list
pub record Room : Type 0 where
  pub limit : ℕ
  pub stack : ℕ
  pub list : ℕ

-- packing into so many cells, a parse of these tokens, or the table check
pub data Asked : Type 0 where
  packing : Board → ℕ → Asked
  parsing : Board → List ℕ → Room → Asked
  checking : Board → Asked

-- what packing says and leaves; what the parser over the packed cells says and leaves, then what the plain machine does; what the check says
pub data Answer : Type 0 where
  packs : Result → Answer
  parses : Outcome → Outcome → Answer
  checks : Said → Answer

-- every lent array holds 7 throughout, so that what is left in it has been written
abbrev pub lent : ℕ → List ℕ
lent n = replicate n 7

-- Base and Check, the marks and the place list, for this many cells and states
abbrev pub lent_cells : ℕ → ℕ → Bench
lent_cells W states = bench (replicate W (pos 7)) (replicate W (pos 7)) (lent W) (lent states)

-- what `pack` says and leaves
unfoldable pub packed_on : Board → ℕ → Result
packed_on B W = packed B.sizes B.states B.left B.lens B.rights B.table B.srule B.sgoto (lent_cells W B.states)

-- what `parse` says and leaves, over these cells
unfoldable pub parsed_on : Board → Bench → List ℕ → Room → Outcome
parsed_on B C tokens r =
    packed_parse B.sizes B.left B.lens B.rights C.bases C.checks tokens r.limit (lent r.stack) (lent r.list)

-- what `plain_parse` says and leaves
unfoldable pub plain_on : Board → List ℕ → Room → Outcome
plain_on B tokens r =
    plain_parse B.sizes B.states B.left B.lens B.rights B.table B.srule B.sgoto tokens r.limit (lent r.stack) (lent r.list)

-- what `check` says
unfoldable pub checked_on : Board → Said
checked_on B = checked B.sizes B.states B.left B.lens B.rights B.table B.srule B.sgoto

-- the cells of a parse are what packing leaves of 64
unfoldable pub answered : Asked → Answer
answered (packing B W) = packs (packed_on B W)
answered (parsing B tokens r) = parses (parsed_on B (packed_on B 64).arrays tokens r) (plain_on B tokens r)
answered (checking B) = checks (checked_on B)
