-- The worked sheet, and the text of no bytes, computed. Assumes nothing.
use Rattle.std.specs.Prelude.{◌≡◌, refl, []}
use Rattle.tables.specs.Lists.{all, sum, among, or_at, lowest}
use Rattle.tables.specs.Size.{numbers_fit, states_fit, rights_fit, grammar_fits, table_fits, signing_fits, all_fit}
use Rattle.tables.specs.Grammar.{right_at, grammar, inner, on_right, good_sides, good_rule, lowest_rule}
use Rattle.tables.specs.Entry.{entry_at, good_signed, good_entry, lowest_entry}
use Rattle.tables.specs.Signing.{good_signature, good_target, lowest_state, lowest_target}
use Rattle.tables.specs.Judgement.{sign_judgement, grammar_judgement, judgement}
use Rattle.cells.specs.Size.{cells_fit}
use Rattle.packing.specs.Job.{job_of}
use Rattle.packing.specs.Rows.{row, same_row, rep, plan}
use Rattle.packing.specs.Bench.{try_b, row_b, house_b, home_b, state_b, blank_b, placement_b}
use Rattle.packing.specs.Packed.{bound}
use Rattle.packing.specs.Packing.{arrays_fit, count_of, packed}
use Rattle.sheets.specs.Decimal.{digits, decimal}
use Rattle.sheets.specs.Sheet.{line, entry_key, header, joined}
use Rattle.sheets.specs.Lines.{begins, stands, digits_on, number_on, value_at, entry_at as entry_of, entry_wants, exact_wants, wants, lines_from, lines_of}
use Rattle.sheets.specs.Outcome.{signed_or, sheet_read}
use Rattle.sheets.specs.SmallSheet.{sheet}
use Rattle.texts.specs.Printed.{cell_line, cell_lines, cells_text, refusal_text}
use Rattle.printed.specs.Printed.{board_packed, packed_text, signed_text, board_read, read_text, printed}
use Rattle.printed.specs.Worked.{worked_output, long_output, empty_output}

pub sheet-printed : printed sheet ≡ worked_output
unfolding all sum among or_at lowest
    numbers_fit states_fit rights_fit grammar_fits table_fits signing_fits all_fit
    right_at grammar inner on_right good_sides good_rule lowest_rule
    entry_at good_signed good_entry lowest_entry
    good_signature good_target lowest_state lowest_target
    sign_judgement grammar_judgement judgement
    cells_fit job_of row same_row rep plan try_b row_b house_b home_b state_b blank_b placement_b bound arrays_fit count_of packed
    digits decimal line entry_key header joined begins stands digits_on number_on value_at entry_of entry_wants exact_wants wants lines_from lines_of signed_or sheet_read
    cell_line cell_lines cells_text refusal_text board_packed packed_text signed_text board_read read_text printed
sheet-printed = refl

pub empty-printed : printed [] ≡ empty_output
unfolding numbers_fit states_fit signing_fits
    digits decimal line entry_key header begins stands entry_wants exact_wants wants lines_from lines_of sheet_read
    refusal_text board_read read_text printed
empty-printed = refl

pub long_output_lem : refusal_text 16 ≡ long_output
unfolding digits decimal line refusal_text
long_output_lem = refl
