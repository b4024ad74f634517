use Rattle.tables.specs.Laws.Size.{signing_fits_lem}
use Rattle.judgement.proofs.judge.judge_signatures.Goals as goal

pub lowest_target-requires : goal.lowest_target-requires
lowest_target-requires c = (signing_fits_lem _ _ _ _ c.requires).count.most
