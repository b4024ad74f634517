use Rattle.std.proofs.Common.{◌∙◌}
use Rattle.number.specs.Laws.Words.{clear-all}
use Rattle.packing.specs.Laws.Whole.{wiped-is}
use Rattle.packing.proofs.place.wipe.Goals as goal

pub returns : goal.returns
returns c = let a = c.args in wiped-is a.empty a.base.now a.check.now _ _ a.marks.now a.place.now _ _ c.requires c.fill_i32.ensures c.fill_i32-2.ensures (c.clear_u32.ensures ∙ clear-all a.marks.now) (c.clear_u32-2.ensures ∙ clear-all a.place.now)
