use Rattle.std.proofs.Common.{◌∙◌}
use Rattle.packing.specs.Laws.Packing.{no_room}
use Rattle.packing.specs.Laws.Whole.{blank-is}
use Rattle.packing.specs.Written.{bench}
use Rattle.packing.proofs.pack.pack_judged.Goals as goal

pub place_all-requires : goal.place_all-requires
place_all-requires c =
    let a = c.args in
    let j = a.job in
    rw c.requires.cells (blank-is j.sizes j.table.states j.table.entries.now j.signing.rules.now j.signing.targets.now (bench a.base.now a.check.now a.marks.now a.place.now) _ c.requires.sized c.wipe.ensures)

pub returns-in-Err : goal.returns-in-Err
returns-in-Err c =
    let a = c.args in
    no_room (bench a.base.now a.check.now a.marks.now a.place.now) _ _ _ (rw c.in-Err.is at c.place_all.ensures) c.wipe-in-Err.ensures (c.place_all.auto.base ∙ c.wipe.auto.base) (c.place_all.auto.check ∙ c.wipe.auto.check) (c.place_all.auto.marks ∙ c.wipe.auto.marks) (c.place_all.auto.place ∙ c.wipe.auto.place)
