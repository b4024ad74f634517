use Rattle.std.proofs.Common.{rules, arith, sym, ◌∙◌}
use Rattle.sheets.specs.Laws.Said.{refused-some}
use Rattle.sheets.specs.Laws.Writing.{refused-written, good-written, judged-signed}
use Rattle.texts.proofs.write.write_sheet.Goals as goal

pub returns-in_err-judge_signing : goal.returns-in_err-judge_signing
returns-in_err-judge_signing c =
    rw (← refused-written _ _ _ _ _ _ c.in_err-judge_signing.ensures (λ e. omega (arith, refused-some c.in_err-judge_signing.field-0.0)))
    (search rules)

pub invariant_of-sheet : goal.invariant_of-sheet
invariant_of-sheet c = record { good = judged-signed _ _ _ _ (sym c.in_ok-judge_signing.ensures) }

pub returns : goal.returns
returns c = c.write_text.ensures ∙ good-written _ _ _ _ _ (sym c.in_ok-judge_signing.ensures)
