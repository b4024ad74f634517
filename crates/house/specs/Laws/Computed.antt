-- The house notation computed. Assumes nothing.
use Rattle.std.specs.Prelude.{◌≡◌, refl, []}
use Rattle.tables.specs.Said.{OK}
use Rattle.tables.specs.Lists.{all, sum, among, or_at, lowest}
use Rattle.tables.specs.Size.{numbers_fit, states_fit, rights_fit, grammar_fits, table_fits, signing_fits, all_fit}
use Rattle.tables.specs.Grammar.{right_at, grammar, inner, on_right, good_sides, good_rule, lowest_rule}
use Rattle.tables.specs.Entry.{entry_at, good_signed, good_entry, lowest_entry, action_at, goto_at}
use Rattle.tables.specs.Signing.{good_signature, good_target, lowest_state, lowest_target}
use Rattle.tables.specs.Judgement.{sign_judgement, judgement}
use Rattle.tables.specs.Filled.{signed_action, signed_goto, filled_action_at, filled_goto_at}
use Rattle.machine.specs.Reads.{plain_reads, unsigned_reads}
use Rattle.soundness.specs.Lists.{kept, those, collect}
use Rattle.soundness.specs.Check.{leads_to, arcs_from, arcs, grown, grow, reached, into, before, spelling, spells, may_precede, keeps, rules_at, rule_fault, state_fault, or_fault, least_fault, verdict_of, verdict_by, verdict_from, verdict}
use Rattle.soundness.specs.Outcome.{judged_then, checked}
use Rattle.soundness.specs.Theorems.{exact-ok}
use Rattle.house.specs.House.{house_sizes, house_states, house_left, house_lens, house_rights, house_table}
use Rattle.house.specs.Parse.{no_rules, no_targets, house_judgement, house_checked}

-- the check, over the whole constant at once
pub house_checked_lem : house_checked ≡ OK []
unfolding house_left house_lens house_rights house_table judgement sign_judgement lowest_state lowest_target good_signature good_target lowest_entry good_entry good_signed lowest_rule good_rule good_sides inner on_right right_at all_fit signing_fits table_fits grammar_fits rights_fit states_fit numbers_fit all sum among or_at lowest grammar entry_at action_at goto_at signed_action signed_goto filled_action_at filled_goto_at plain_reads unsigned_reads kept those collect leads_to arcs_from arcs grown grow reached into before spelling spells may_precede keeps rules_at rule_fault state_fault or_fault least_fault verdict_of verdict_by verdict_from verdict judged_then checked
house_checked_lem = refl

-- so the judgement refuses nothing
pub house-judged : house_judgement ≡ OK []
house-judged = ((exact-ok house_sizes house_states house_left house_lens house_rights house_table no_rules no_targets).0 house_checked_lem).0
