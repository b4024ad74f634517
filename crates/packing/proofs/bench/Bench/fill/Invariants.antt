use Rattle.std.specs.Prelude.{◌≡◌}
use Rattle.packing.specs.Bench.{fill_b}
use Rattle.packing.specs.Lent.{asked, as_kind, cells, SameLenders}
use Rattle.packing.proofs.bench.Bench.fill.Given as goal

abbrev pub invariant-loop-a : goal.invariant-loop-a
invariant-loop-a l =
    record {
      cells : cells l.self ≡ fill_b (asked l.row.job) (as_kind l.row.kind) l.row.state l.b l.a (cells l.initial.self);
      lent : SameLenders l.initial.self l.self;
    }
