use Rattle.packing.specs.Laws.Search.{marked-none}
use Rattle.packing.proofs.bench.Bench.mark_used.Goals as goal

pub loop-n-init : goal.loop-n-init
loop-n-init c = rw c.requires (marked-none _ _ 16384)
