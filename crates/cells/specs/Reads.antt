-- Cells as a way of reading: a state is the cell that it stands at.
use Rattle.std.specs.Prelude.{ℕ, List, ℤ}
use Rattle.cells.specs.Read.{action, goto, twice, cells_of, read_cell}
use Rattle.reads.specs.Reads.{Reads, act_said, go_said}

-- the reads of cells, of a grammar with so many rules
unfoldable pub cell_reads : ℕ → List ℤ → List ℤ → Reads
cell_reads rules base check =
    record {
      act = λ x a. act_said (read_cell action (cells_of rules twice base check) x a);
      go = λ x a. go_said (read_cell goto (cells_of rules twice base check) x a);
    }
