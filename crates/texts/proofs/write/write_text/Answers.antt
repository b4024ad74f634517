use Rattle.std.specs.Prelude.{◌<◌, ◌≤◌, length}
use Rattle.std.proofs.Common.{arith}
use Rattle.sheets.specs.Laws.Writing.{too_long, put_front}
use Rattle.texts.proofs.write.write_text.Goals as goal

pub returns-then-buffer-size : goal.returns-then-buffer-size
returns-then-buffer-size c =
    let h : length c.args.buffer.now < c.put_text-size.result = omega arith in
    too_long _ _ c.put_text-size.ensures h

pub returns : goal.returns
returns c =
    let h : c.put_text-size.result ≤ length c.args.buffer.now = omega arith in
    put_front _ _ c.put_text-size.ensures h c.put_text.ensures
