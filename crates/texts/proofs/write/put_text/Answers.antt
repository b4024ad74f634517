use Rattle.sheets.specs.Laws.Fitting.{text-room}
use Rattle.texts.proofs.write.put_text.Goals as goal

pub sheet-requires : goal.sheet-requires
sheet-requires c = text-room _ _ _ _ c.args.sheet.good
