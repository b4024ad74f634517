-- The table of worked cases, computed. Assumes nothing.
use mathlib.Core.List.{Memᴰ}
use Rattle.std.specs.Prelude.{◌≡◌, refl, List, [], ◌∷◌, map}
use Rattle.tables.specs.Lists.{all, sum, among, or_at, lowest}
use Rattle.tables.specs.Size.{numbers_fit, states_fit, rights_fit, grammar_fits, table_fits, signing_fits, all_fit}
use Rattle.tables.specs.Grammar.{right_at, grammar, inner, on_right, good_sides, good_rule, lowest_rule}
use Rattle.tables.specs.Entry.{entry_at, good_signed, good_entry, lowest_entry, action_at, goto_at}
use Rattle.tables.specs.Signing.{good_signature, good_target, lowest_state, lowest_target}
use Rattle.tables.specs.Filled.{signed_action, filled_action_at, filled_goto_at}
use Rattle.tables.specs.Judgement.{sign_judgement, grammar_judgement, judgement}
use Rattle.cells.specs.Size.{cells_fit}
use Rattle.cells.specs.Read.{cells_of, found, is_state, state_read, rule_read, read_at, read_cell}
use Rattle.packing.specs.Job.{job_of}
use Rattle.packing.specs.Rows.{row, same_row, rep, plan}
use Rattle.packing.specs.Bench.{try_b, row_b, house_b, home_b, state_b, blank_b, placement_b}
use Rattle.packing.specs.Packed.{bound}
use Rattle.packing.specs.Turns.{wiped}
use Rattle.packing.specs.Packing.{arrays_fit, count_of, packed}
use Rattle.machine.specs.Reads.{plain_reads, unsigned_reads}
use Rattle.machine.specs.Machine.{refused, after_shift, after_reduce, after_accept, current, pushed, written, gone, popped, acted, looked, move, then, run, begun, parse}
use Rattle.machine.specs.Outcome.{leaves, job_fits, judged_then, plain_parse}
use Rattle.cells.specs.Reads.{cell_reads}
use Rattle.parser.specs.Outcome.{packed_fits, packed_parse}
use Rattle.soundness.specs.Lists.{kept, those, collect}
use Rattle.soundness.specs.Check.{leads_to, arcs_from, arcs, grown, grow, reached, into, before, spelling, spells, may_precede, keeps, rules_at, rule_fault, state_fault, or_fault, least_fault, verdict_of, verdict_by, verdict_from, verdict}
use Rattle.soundness.specs.Outcome.{judged_then as then_checked, checked}
use Rattle.board.specs.Asked.{packed_on, parsed_on, plain_on, checked_on, answered}
use Rattle.board.specs.Worked.{Case, cases}

-- all of it at once: every definition that is asked, from the judgement of sizes to the last edge, opens here
computed : map (λ c. answered c.asked) cases ≡ map (λ c. c.answer) cases
unfolding all sum among or_at lowest
    numbers_fit states_fit rights_fit grammar_fits table_fits signing_fits all_fit
    right_at grammar inner on_right good_sides good_rule lowest_rule
    entry_at good_signed good_entry lowest_entry action_at goto_at
    good_signature good_target lowest_state lowest_target
    signed_action filled_action_at filled_goto_at
    sign_judgement grammar_judgement judgement
    cells_fit cells_of found is_state state_read rule_read read_at read_cell
    job_of row same_row rep plan try_b row_b house_b home_b state_b blank_b placement_b bound wiped arrays_fit count_of packed
    plain_reads unsigned_reads refused after_shift after_reduce after_accept current pushed written gone popped acted looked move then run begun parse
    leaves job_fits judged_then plain_parse cell_reads packed_fits packed_parse
    kept those collect leads_to arcs_from arcs grown grow reached into before spelling spells may_precede keeps rules_at rule_fault state_fault or_fault least_fault verdict_of verdict_by verdict_from verdict then_checked checked
    packed_on parsed_on plain_on checked_on answered
computed = refl

-- where two lists of answers are the same, so are the two answers of each case
same_at : {A B : Type 0} (f g : A → B) {x : A} (l : List A) → map f l ≡ map g l → Memᴰ x l → f x ≡ g x
same_at f g [] e m = elim m [ ]
same_at f g (y ∷ l) e (Memᴰ.head h) = cc
same_at f g (y ∷ l) e (Memᴰ.tail m) = same_at f g l (cc) m

pub every-case : (c : Case) → Memᴰ c cases → answered c.asked ≡ c.answer
every-case c = same_at (λ c. answered c.asked) (λ c. c.answer) cases computed
