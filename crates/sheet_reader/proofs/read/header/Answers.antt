use Rattle.std.specs.Prelude.{Err, refl, ◌≡◌}
use Rattle.std.proofs.Common.{rules, sym, ◌∙◌}
use Rattle.sheets.specs.Sheet.{header as header_lines}
use Rattle.sheets.specs.Laws.Walk.{exact-ok, exact-err, exact-last}
use Rattle.sheet_reader.proofs.read.header.Goals as goal

pub returns-in_err-at : goal.returns-in_err-at
unfolding header_lines
returns-in_err-at c =
    let r : c.from_residual.result ≡ Err c.in_err-at.field-0.0 = search rules in r ∙ sym (
    exact-err _ _ _ _ _ c.skip_line.ensures c.ok_or.ensures.value c.in_err-at.was
    )

pub returns-in_err-at-2 : goal.returns-in_err-at-2
unfolding header_lines
returns-in_err-at-2 c =
    let r : c.from_residual-in_err-at-2.result ≡ Err c.in_err-at-2.field-0.0 = search rules in r ∙ sym (
    exact-ok _ _ _ _ _ c.skip_line.ensures c.ok_or.ensures.value c.in_ok-at.was ∙ (exact-err _ _ _ _ _ c.skip_line-2.ensures c.ok_or-2.ensures.value c.in_err-at-2.was)
    )

pub returns-in_err-at-3 : goal.returns-in_err-at-3
unfolding header_lines
returns-in_err-at-3 c =
    let r : c.from_residual-in_err-at-3.result ≡ Err c.in_err-at-3.field-0.0 = search rules in r ∙ sym (
    exact-ok _ _ _ _ _ c.skip_line.ensures c.ok_or.ensures.value c.in_ok-at.was ∙ (exact-ok _ _ _ _ _ c.skip_line-2.ensures c.ok_or-2.ensures.value c.in_ok-at-2.was ∙ (exact-err _ _ _ _ _ c.skip_line-3.ensures c.ok_or-3.ensures.value c.in_err-at-3.was))
    )

pub returns-in_err-at-4 : goal.returns-in_err-at-4
unfolding header_lines
returns-in_err-at-4 c =
    let r : c.from_residual-in_err-at-4.result ≡ Err c.in_err-at-4.field-0.0 = search rules in r ∙ sym (
    exact-ok _ _ _ _ _ c.skip_line.ensures c.ok_or.ensures.value c.in_ok-at.was ∙ (exact-ok _ _ _ _ _ c.skip_line-2.ensures c.ok_or-2.ensures.value c.in_ok-at-2.was ∙ (exact-ok _ _ _ _ _ c.skip_line-3.ensures c.ok_or-3.ensures.value c.in_ok-at-3.was ∙ (exact-err _ _ _ _ _ c.skip_line-4.ensures c.ok_or-4.ensures.value c.in_err-at-4.was)))
    )

pub returns : goal.returns
unfolding header_lines
returns c =
    sym (
    exact-ok _ _ _ _ _ c.skip_line.ensures c.ok_or.ensures.value c.in_ok-at.was ∙ (exact-ok _ _ _ _ _ c.skip_line-2.ensures c.ok_or-2.ensures.value c.in_ok-at-2.was ∙ (exact-ok _ _ _ _ _ c.skip_line-3.ensures c.ok_or-3.ensures.value c.in_ok-at-3.was ∙ (exact-ok _ _ _ _ _ c.skip_line-4.ensures c.ok_or-4.ensures.value c.in_ok-at-4.was ∙ (exact-last _ _ _ _ _ c.skip_line-5.ensures c.ok_or-5.ensures.value refl))))
    )
