use Rattle.std.proofs.Common.{rules}
use Rattle.sheets.specs.Laws.Reading.{line-refused, targets-left, keeping, signing-read}
use Rattle.sheet_reader.proofs.read.read_by.Goals as goal

pub returns-in_err-size : goal.returns-in_err-size
returns-in_err-size c =
    rw (← line-refused _ _ _ _ _ _ _ c.requires.fits c.requires.lengths c.requires.start c.scan.ensures c.in_err-size.was)
    (search rules)

pub keep-requires : goal.keep-requires
keep-requires c =
    rw (targets-left _ _ _ _ _ _ _ c.requires.fits c.requires.lengths c.requires.start c.scan.ensures c.scan.auto.rules c.scan.auto.targets)
    (keeping _ _ _ _ _ _ _ c.requires.fits c.requires.lengths c.requires.start c.scan.ensures c.scan.auto.rules c.scan.auto.targets)

pub returns : goal.returns
returns c =
    rw (← signing-read _ _ _ _ _ _ _ c.requires.fits c.requires.lengths c.requires.start c.scan.ensures c.scan.auto.rules c.scan.auto.targets c.in_ok-size.was)
    (rw (targets-left _ _ _ _ _ _ _ c.requires.fits c.requires.lengths c.requires.start c.scan.ensures c.scan.auto.rules c.scan.auto.targets) at c.keep.ensures)
