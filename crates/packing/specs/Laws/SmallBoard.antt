-- The small board, computed. Assumes nothing.
use Rattle.std.specs.Prelude.{◌≡◌, refl}
use Rattle.std.proofs.Math.Option.{none, some}
use Rattle.tables.specs.Lists.{among, or_at, lowest}
use Rattle.tables.specs.Size.{numbers_fit, states_fit, signing_fits, table_fits}
use Rattle.tables.specs.Entry.{entry_at, good_entry, good_signed, lowest_entry}
use Rattle.tables.specs.Signing.{good_signature, good_target, lowest_state, lowest_target}
use Rattle.packing.specs.Job.{job_of}
use Rattle.packing.specs.Rows.{row, same_row, rep, plan}
use Rattle.packing.specs.Board.{empty, put, house, set_base, plain, settle, home_step, try_row, row_step, state_step, placement}
use Rattle.packing.specs.Packed.{base_at, check_at, arrays, bound, pack}
use Rattle.packing.specs.Valid.{Valid}
use Rattle.packing.specs.SmallBoard.{small_sizes, small_table, small_rules, small_targets, small_job, small_packed}

pub small-packs : pack small_job 21 ≡ some small_packed
unfolding job_of entry_at row same_row rep plan empty put house set_base plain settle try_row row_step home_step state_step placement base_at check_at arrays bound pack
small-packs = refl

pub small-no-room : pack small_job 20 ≡ none
unfolding job_of entry_at row same_row rep plan empty put house set_base plain settle try_row row_step home_step state_step placement base_at check_at arrays bound pack
small-no-room = refl

pub small-valid : Valid small_sizes 7 small_table small_rules small_targets
unfolding numbers_fit states_fit signing_fits table_fits lowest_entry good_entry good_signed lowest_state good_signature lowest_target good_target among or_at lowest
small-valid = record { signing-size = refl; table-size = refl; entries = refl; rules = refl; targets = refl }
