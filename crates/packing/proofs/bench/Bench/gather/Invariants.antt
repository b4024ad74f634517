use Rattle.std.specs.Prelude.{◌≤◌, ◌*◌, length}
use Rattle.packing.specs.Bench.{no_cell_b}
use Rattle.packing.specs.Gathered.{Gathered}
use Rattle.packing.specs.Lent.{cells, row_of}
use Rattle.packing.proofs.bench.Bench.gather.Given as goal

abbrev pub invariant-loop-a : goal.invariant-loop-a
invariant-loop-a l =
    record {
      so_far : Gathered (no_cell_b (cells l.self)) (row_of l.row) l.a l.need.items;
      room : length l.need.items ≤ 2 * l.a;
    }
