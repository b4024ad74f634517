use Rattle.std.specs.Prelude.{◌≡◌}
use Rattle.packing.specs.Packing.{count_upto}
use Rattle.packing.proofs.pack.count.Given as goal

abbrev pub invariant-loop-c : goal.invariant-loop-c
invariant-loop-c l = l.n ≡ count_upto l.marks l.c
