use Rattle.std.proofs.Common.{rules}
use borrow.Author.Tests.{tests}
use Rattle.soundness.specs.Laws.Search.{found-lowest}
use Rattle.soundness.proofs.paths.Paths.lowest_astray.Goals as goal

pub returns : goal.returns
returns c = found-lowest _ _ _ _ c.find.result c.find.ensures.ran (λ x b q k. search (rules, tests))
