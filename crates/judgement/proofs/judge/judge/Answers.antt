use Rattle.std.proofs.Common.{sym, ◌∙◌}
use Rattle.tables.specs.Laws.Size.{all_fit_lem, grammar_fits_lem, fit-numbers}
use Rattle.judgement.proofs.judge.judge.Goals as goal

pub lowest_rule-requires : goal.lowest_rule-requires
lowest_rule-requires c = (all_fit_lem _ _ _ _ _ _ _ _ (sym c.all_fit.ensures ∙ c.if-not-all_fit.false)).grammar

pub lowest_entry-requires : goal.lowest_entry-requires
lowest_entry-requires c =
    let f = all_fit_lem _ _ _ _ _ _ _ _ (sym c.all_fit.ensures ∙ c.if-not-all_fit.false) in
    record { numbers = fit-numbers _ (grammar_fits_lem _ _ _ _ f.grammar).numbers; table = f.table-size }

pub judge_signatures-requires : goal.judge_signatures-requires
judge_signatures-requires c = (all_fit_lem _ _ _ _ _ _ _ _ (sym c.all_fit.ensures ∙ c.if-not-all_fit.false)).signing
