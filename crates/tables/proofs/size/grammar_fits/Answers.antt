use Rattle.std.proofs.Common.{sym, ◌∙◌, arith}
use Rattle.tables.specs.Laws.Size.{NumbersFit, numbers_fit_lem}
use Rattle.tables.proofs.size.grammar_fits.Goals as goal

pub rights_fit-requires : goal.rights_fit-requires
rights_fit-requires c =
    let n : NumbersFit _ = numbers_fit_lem _ (sym c.numbers_fit.ensures ∙ c.if-numbers_fit.true) in
    omega (arith, n.rules.most)
