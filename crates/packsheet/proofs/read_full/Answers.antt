-- Each read goes on where the ones before it ended.
use Rattle.std.specs.Prelude.{◌≡◌, ◌+◌, ◌≤◌, ℕ, List, ◌++◌, Option, Some, None, length, take}
use Rattle.std.proofs.Common.{rules, sym, ap, ◌∙◌, append_assoc, length-take-le}
use Rattle.std.proofs.Math.Seq.{take-append-add}
use Rattle.std.proofs.lemmas.List.{take-append-le}
use Rattle.std.specs.Io.KnownBytes.{Consumes}
use Rattle.packsheet.proofs.read_full.Goals as goal

-- the first n of ys stand after a
front : (a ys rest : List ℕ) (f n : ℕ) → length a ≡ f → n ≤ length ys → take (f + n) (a ++ (ys ++ rest)) ≡ a ++ take n ys
front a ys rest f n e h = rw (← e, take-append-add a (ys ++ rest) n, take-append-le n ys rest h)

-- what was lost first, and what was lost then
then : (x y z : Option (List ℕ)) (a b : List ℕ) → Consumes x y a → Consumes y z b → Consumes x z (a ++ b)
then None y z a b e f = tt
then (Some x) None z a b e f = absurd e
then (Some x) (Some y) None a b e f = f
then (Some x) (Some y) (Some z) a b e f = e ∙ ap (λ (r : List ℕ). a ++ r) f ∙ sym (append_assoc a b z)

pub loop-preserved : goal.loop-preserved
loop-preserved g c =
    record {
      within = search rules;
      bytes =
          rw (front (take c.loop.filled c.loop.buffer) c.read.new.buf _ c.loop.filled c.in-Ok.n (length-take-le _ _ c.loop.invariant.within) (search rules))
          (then _ _ _ _ _ c.loop.invariant.bytes c.in-Ok.ensures.bytes.0);
    }
