use Rattle.std.specs.Prelude.{◌≡◌}
use Rattle.std.proofs.Math.Option.{some}
use Rattle.packing.specs.Bench.{targets_b}
use Rattle.packing.specs.Lent.{asked, cells, SameLenders}
use Rattle.packing.proofs.bench.Bench.targets.Given as goal

abbrev pub invariant-loop-i : goal.invariant-loop-i
invariant-loop-i l =
    record {
      cells : some (cells l.self) ≡ targets_b (asked l.job) l.job.cells l.i (cells l.initial.self);
      lent : SameLenders l.initial.self l.self;
    }
