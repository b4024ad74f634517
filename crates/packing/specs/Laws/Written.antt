-- The written entries that the code reads are those of the job's rows. Assumes nothing.
use Rattle.std.specs.Prelude.{◌≡◌, refl, ℕ, zero, suc, ℤ, pos, negsuc}
use Rattle.std.proofs.Common.{arith, ne_eqb}
use Rattle.number.specs.Number.{sign_of}
use Rattle.packing.specs.Job.{view}
use Rattle.packing.specs.Rows.{rule_sign, state_sign, unless}
use Rattle.packing.specs.Written.{written_action, written_goto}

pub written_action_is : (v : ℤ) (q : ℕ) → written_action (sign_of v) q ≡ unless (view v) (rule_sign q)
written_action_is (pos zero) zero = refl
written_action_is (pos zero) (suc q) = refl
written_action_is (pos (suc n)) zero = rw (ne_eqb (suc n) 0 (omega arith)) refl
written_action_is (pos (suc n)) (suc q) = rw (ne_eqb (suc n) 0 (omega arith)) refl
written_action_is (negsuc n) zero = rw (ne_eqb (suc n) 0 (omega arith)) refl
written_action_is (negsuc n) (suc q) = refl

pub written_goto_is : (v : ℤ) (q : ℕ) → written_goto (sign_of v) q ≡ unless (view v) (state_sign q)
written_goto_is (pos zero) zero = refl
written_goto_is (pos zero) (suc q) = refl
written_goto_is (pos (suc n)) zero = rw (ne_eqb (suc n) 0 (omega arith)) refl
written_goto_is (pos (suc n)) (suc q) = rw (ne_eqb (suc n) 0 (omega arith)) refl
written_goto_is (negsuc n) zero = refl
written_goto_is (negsuc n) (suc q) = refl
