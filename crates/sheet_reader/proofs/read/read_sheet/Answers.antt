use Rattle.std.proofs.Common.{sym, ◌∙◌}
use Rattle.sheets.specs.Laws.Reading.{rules_room, targets_room, zeros-front}
use Rattle.sheet_reader.proofs.read.read_sheet.Goals as goal

pub slice_bounds-read_by-end : goal.slice_bounds-read_by-end
slice_bounds-read_by-end c = sym (zeros-front 1024 _ (rules_room _ _ _ _ (sym c.signing_fits.ensures ∙ c.if-not-signing_fits.false)))

pub slice_bounds-read_by-end-2 : goal.slice_bounds-read_by-end-2
slice_bounds-read_by-end-2 c = sym (zeros-front 512 _ (targets_room _ _ _ _ (sym c.signing_fits.ensures ∙ c.if-not-signing_fits.false)))

pub read_by-requires-clause-lengths : goal.read_by-requires-clause-lengths
read_by-requires-clause-lengths c = (zeros-front 1024 _ (rules_room _ _ _ _ (sym c.signing_fits.ensures ∙ c.if-not-signing_fits.false)), zeros-front 512 _ (targets_room _ _ _ _ (sym c.signing_fits.ensures ∙ c.if-not-signing_fits.false)))
