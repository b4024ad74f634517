use Rattle.std.proofs.Common.{◌≡◌, sym, ap, ◌∙◌, Ok, Err}
use Rattle.std.specs.Prelude.{Result}
use Rattle.std.specs.Result.{IsErrAnd}
use Rattle.tables.specs.declared.Refusal.{Refusal}
use Rattle.tables.specs.Judgement as tables
use Rattle.soundness.specs.declared.CheckRefusal.{CheckRefusal}
use Rattle.soundness.specs.declared.CheckRefusal.TheVariants.{Judged}
use Rattle.soundness.specs.Answer.{said_of, refused}
use Rattle.soundness.specs.Laws.Outcome.{said-back, good-said}
use Rattle.soundness.proofs.verdict.check.Goals as goal

-- a refusal of the judgement is said as it is
said-judged : (e : Refusal) (r : Result (Unit {0}) CheckRefusal) → IsErrAnd r (λ x. x ≡ Judged e) → said_of r ≡ tables.refused e
said-judged e (Ok u) h = absurd h
said-judged e (Err x) h = ap refused h

pub returns-in_err-judge : goal.returns-in_err-judge
returns-in_err-judge c =
    let a = c.args in
    said-judged c.in_err-judge.field-0.0 _ c.from_residual.ensures.1
    ∙ sym (said-back a.grammar.sizes a.table.states a.grammar.left.now a.grammar.lens.now a.grammar.rights.now a.table.entries.now a.signing.rules.now a.signing.targets.now
    c.in_err-judge.field-0.0 (sym c.judge.ensures ∙ ap tables.said_of c.in_err-judge.was))

pub returns : goal.returns
returns c =
    let a = c.args in
    c.verdict.ensures
    ∙ sym (good-said a.grammar.sizes a.table.states a.grammar.left.now a.grammar.lens.now a.grammar.rights.now a.table.entries.now a.signing.rules.now a.signing.targets.now
    (sym c.judge.ensures ∙ ap tables.said_of c.in_ok-judge.was))
