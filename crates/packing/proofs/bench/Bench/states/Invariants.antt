use Rattle.std.specs.Prelude.{◌≡◌}
use Rattle.std.proofs.Math.Option.{some}
use Rattle.packing.specs.Bench.{states_b}
use Rattle.packing.specs.Lent.{asked, cells, SameLenders}
use Rattle.packing.proofs.bench.Bench.states.Given as goal

abbrev pub invariant-loop-s : goal.invariant-loop-s
invariant-loop-s l =
    record {
      cells : some (cells l.self) ≡ states_b (asked l.job) l.job.cells l.job.tries l.s (cells l.initial.self);
      lent : SameLenders l.initial.self l.self;
    }
