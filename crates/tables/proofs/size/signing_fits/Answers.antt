use Rattle.std.proofs.Common.{sym, ◌∙◌, arith}
use Rattle.tables.specs.Laws.Size.{NumbersFit, numbers_fit_lem}
use Rattle.tables.proofs.size.signing_fits.Goals as goal

pub overflow_sub-result : goal.overflow_sub-result
overflow_sub-result c =
    let n : NumbersFit _ = numbers_fit_lem _ (sym c.numbers_fit.ensures ∙ c.if-numbers_fit.true) in
    omega (arith, n.symbols.least)
