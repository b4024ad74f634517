use Rattle.std.proofs.Common.{arith}
use Rattle.soundness.specs.Laws.Walk.{walking-begin, open-below, open-reached, walking-less, walking-more, walking-end}
use Rattle.soundness.specs.Laws.Judged.{judged-tabled}
use Rattle.soundness.proofs.paths.Judged.find_ways.Goals as goal

pub loop-s-init : goal.loop-s-init
loop-s-init c = rw c.requires (walking-begin (judged-tabled c.args.self))

pub bounds-walked-s : goal.bounds-walked-s
bounds-walked-s c =
    let k = judged-tabled c.args.self in
    omega (arith, open-below k c.loop-s.invariant c.in-Some.ensures, k.count.most)

pub walk-requires : goal.walk-requires
walk-requires c =
    let k = judged-tabled c.args.self in
    let w = c.loop-s.invariant in
    record { kept = w.kept; reached = open-reached k w c.in-Some.ensures; below = open-below k w c.in-Some.ensures }

pub loop-s-smaller : goal.loop-s-smaller
loop-s-smaller c = walking-less (judged-tabled c.args.self) c.loop-s.invariant c.in-Some.ensures

pub loop-s-preserved : goal.loop-s-preserved
loop-s-preserved c = walking-more (judged-tabled c.args.self) c.loop-s.invariant c.walk.ensures

pub returns : goal.returns
returns c = walking-end (judged-tabled c.args.self) c.loop-s.invariant c.in_default.ensures
