-- What is printed ends inside the buffer, and is what the whole input has printed.
use Rattle.std.specs.Prelude.{◌≡◌, ◌≤◌, ℕ, List, Option, Some, None, Result, Ok, Err, length, take, OnOk, IfSome}
use Rattle.std.proofs.Common.{arith, sym, length-take-le}
use Rattle.std.specs.Io.KnownBytes.{Consumes, IsAtEnd, Appends}
use Rattle.printed.specs.Printed.{printed}
use Rattle.printed.specs.Laws.Printed.{printed-front, put_whole}
use Rattle.printed.specs.Laws.Short.{printed-short, printed-inside}
use Rattle.packsheet.proofs.run.Goals as goal

-- bytes that are printed for what was read are printed for all, where what was read is all or too long
printed-all : {E : Type 0} (r : Result (Unit {0}) E) (x y v w : Option (List ℕ)) (front bytes : List ℕ) → Consumes x y front
    → (length front ≤ 65536 → IsAtEnd y) → bytes ≡ printed front → OnOk r (Appends v w bytes) → OnOk r (IfSome x (λ text. Appends v w (printed text)))
printed-all (Err e) x y v w front bytes lost ends same put = tt
printed-all (Ok u) None y v w front bytes lost ends same put = tt
printed-all (Ok u) (Some x) None v w front bytes lost ends same put = absurd lost
printed-all (Ok u) (Some x) (Some y) v w front bytes lost ends same put = rw (lost, ← printed-front front y ends, ← same) put

pub slice_bounds-out-end : goal.slice_bounds-out-end
slice_bounds-out-end g c = printed-inside _ (omega arith) c.print_sheet-size.ensures

pub slice_bounds-write_all-end : goal.slice_bounds-write_all-end
slice_bounds-write_all-end g c =
    let h : c.print_sheet-size.result ≤ length c.print_sheet-size.new.out = printed-inside _ (omega arith) c.print_sheet-size.ensures in
    sym (length-take-le _ _ h)

pub returns : goal.returns
returns g c =
    printed-all _ _ _ _ _ _ _ c.in_ok-read.ensures.bytes
    (λ h. c.in_ok-read.ensures.end (omega (arith, length-take-le _ _ c.in_ok-read.ensures.within)))
    (put_whole _ (omega (arith, printed-short (take c.in_ok-read.read c.read_full.new.buffer))) c.print_sheet-size.ensures)
    c.write_all.ensures.bytes
