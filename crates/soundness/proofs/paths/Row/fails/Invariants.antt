use Rattle.std.proofs.Common.{ℕ, ◌<◌, List, Bool, reverse, length, get_or}
use Rattle.soundness.specs.declared.paths.Row.{Row}
use Rattle.soundness.specs.declared.rule.Rule.{Rule}
use Rattle.soundness.specs.Laws.Edges.{Reached}
use Rattle.soundness.specs.Laws.Walk.{Entered}
use Rattle.soundness.specs.Laws.Back.{Stand}
use Rattle.soundness.proofs.paths.Row.fails.Given as goal

-- of the right side the symbols of `rest` are still to be read
pub record Reading (row : Row) (rule : Rule) (flags : List Bool) (rest : List ℕ) : Type 0 where
  pub entered : Entered row.paths.judged.grammar.sizes row.paths.judged.table.states row.paths.judged.table.entries.now row.paths.ways.now
  pub reached : Reached row.paths.judged.grammar.sizes row.paths.judged.table.entries.now row.state
  pub stand : Stand row.paths.judged rule row.state flags (reverse rest)
  pub below : (i : ℕ) → i < length rest → get_or rest i 0 < row.paths.judged.grammar.sizes.symbols

abbrev pub invariant-loop-y : goal.invariant-loop-y
invariant-loop-y l = ∥ Reading l.self l.rule l.set l.y-iterator.iter.rest.now ∥₁
