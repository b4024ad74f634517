use Rattle.std.proofs.Common.{List, ℕ, ◌+◌, ◌*◌, ◌≤◌, ℤ, length}
use Rattle.tables.specs.declared.Sizes.{Sizes}
use Rattle.tables.specs.Entry.{good_at}
use Rattle.tables.specs.Laws.Lowest.{Walk}
use Rattle.judgement.proofs.entry.lowest_entry.Given as goal

-- the entries before the one of state s and column a are good
pub record Passing (z : Sizes) (states : ℕ) (table : List ℤ) (s a : ℕ) : Type 0 where
  pub walk : Walk (good_at z states table) (length table) (s * z.symbols + a)

abbrev pub invariant-loop-s : goal.invariant-loop-s
invariant-loop-s l = Passing l.z l.table.states l.table.entries.now l.s 0

abbrev pub invariant-loop-a : goal.invariant-loop-a
invariant-loop-a l = Passing l.z l.table.states l.table.entries.now l.s l.a

abbrev pub invariant-loop-a-2 : goal.invariant-loop-a-2
invariant-loop-a-2 l = (l.z.terminals ≤ l.a) × Passing l.z l.table.states l.table.entries.now l.s l.a
