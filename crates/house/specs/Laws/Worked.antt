-- The worked sheets, parsed by computation. Assumes nothing.
use Rattle.std.specs.Prelude.{◌≡◌, [], ◌∷◌, replicate}
use Rattle.tables.specs.Said.{OK, SYNTAX}
use Rattle.tables.specs.Lists.{sum}
use Rattle.tables.specs.Grammar.{right_at, grammar}
use Rattle.tables.specs.Entry.{entry_at, action_at, goto_at}
use Rattle.tables.specs.Filled.{signed_action, signed_goto, filled_action_at, filled_goto_at}
use Rattle.machine.specs.Reads.{plain_reads}
use Rattle.machine.specs.Machine.{refused, after_shift, after_reduce, after_accept, current, pushed, written, gone, popped, acted, looked, move, then, run, begun, parse}
use Rattle.machine.specs.Outcome.{leaves, job_fits, judged_then, plain_parse}
use Rattle.house.specs.House.{house_left, house_lens, house_rights, house_table}
use Rattle.house.specs.Parse.{house_parse}
use Rattle.house.specs.Worked.{whole_sheet, lacking_sheet}
use Rattle.house.specs.Laws.Computed.{house-judged}

-- the book is accepted; the other stops at the second VARIANT, where CAPTURE was to stand
pub worked : ((house_parse whole_sheet 58 (replicate 14 0) (replicate 21 0)).said ≡ OK (21 ∷ 58 ∷ [])) × ((house_parse lacking_sheet 58 (replicate 14 0) (replicate 21 0)).said ≡ SYNTAX 14)
unfolding sum right_at grammar entry_at action_at goto_at signed_action signed_goto filled_action_at filled_goto_at plain_reads refused after_shift after_reduce after_accept current pushed written gone popped acted looked move then run begun parse house_left house_lens house_rights house_table leaves job_fits judged_then plain_parse
worked = (rw house-judged, rw house-judged)
