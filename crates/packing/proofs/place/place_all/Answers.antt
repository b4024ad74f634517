use Rattle.packing.specs.Written.{bench}
use Rattle.packing.specs.Laws.Whole.{blank_low}
use Rattle.packing.proofs.place.place_all.Goals as goal

pub invariant_of-bench : goal.invariant_of-bench
invariant_of-bench c = let a = c.args in record { low = blank_low _ _ (bench a.base.now a.check.now a.marks.now a.place.now) c.requires }
