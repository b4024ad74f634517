use Rattle.std.proofs.Common.{◌∙◌}
use Rattle.sheets.specs.Laws.Emit.{entry-on}
use Rattle.texts.proofs.pen.Pen.entries.Goals as goal

pub loop-i-preserved : goal.loop-i-preserved
loop-i-preserved c =
    record {
      left = entry-on _ _ _ _ c.loop-i.invariant.left c.loop-i-test.true c.entry.ensures.put;
      lent = c.entry.ensures.lent ∙ c.loop-i.invariant.lent;
    }
