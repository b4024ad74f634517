use Rattle.std.proofs.Common.{sym, ◌∙◌}
use Rattle.std.proofs.Math.Logic.{∥∥₁_elim, ∥∥₁_map}
use Rattle.soundness.specs.Laws.Walk.{unreached-true, unreached-false}
use Rattle.soundness.specs.Laws.Faults.{no-fault}
use Rattle.soundness.proofs.paths.Paths.lowest_at.Goals as goal

pub returns-then-is_unreached-clause-lowest : goal.returns-then-is_unreached-clause-lowest
returns-then-is_unreached-clause-lowest c =
    no-fault c.args.self.judged
    (λ r. ∥∥₁_elim c.args.self.entered (hlevel) (λ w. w.all c.args.s r (unreached-true _ (sym c.is_unreached.ensures ∙ c.if-is_unreached.true))))

pub invariant_of-lowest_failing : goal.invariant_of-lowest_failing
invariant_of-lowest_failing c =
    record { reached = ∥∥₁_map c.args.self.entered (λ w. w.kept.reached c.args.s (unreached-false _ (sym c.is_unreached.ensures ∙ c.if-is_unreached.false))) }
