-- The filled table of a signing that signs nothing is the unsigned table. Assumes nothing.
use Rattle.std.specs.Prelude.{◌≡◌, refl, List, ℤ, get_or, Option, Some, None, ℕ, ◌-◌}
use Rattle.std.proofs.Math.Path.{ap₂, fun_ext}
use Rattle.tables.specs.declared.Sizes.{Sizes}
use Rattle.tables.specs.declared.Action.{Action}
use Rattle.tables.specs.declared.Action.TheVariants as action
use Rattle.tables.specs.Entry.{action_at, goto_at}
use Rattle.tables.specs.Filled.{signed_action, signed_goto, filled_action, filled_goto, filled_action_at, filled_goto_at}
use Rattle.reads.specs.Reads.{Act, Go, Reads}
use Rattle.machine.specs.Reads.{act_of, go_of, plain_reads, unsigned_reads}

action-same : (a : Action) → filled_action 0 a ≡ a
unfolding signed_action
action-same action.Blank = refl
action-same (action.Shift t) = refl
action-same (action.Reduce r) = refl
action-same action.Accept = refl

goto-same : (x : Option ℕ) → filled_goto 0 x ≡ x
unfolding signed_goto
goto-same None = refl
goto-same (Some t) = refl

module _ (z : Sizes) (table : List ℤ) (srule sgoto : List ℕ) (no-rule : (s : ℕ) → get_or srule s 0 ≡ 0) (no-state : (i : ℕ) → get_or sgoto i 0 ≡ 0) where
  act-same : (s a : ℕ) → act_of (filled_action_at z table srule s a) ≡ act_of (action_at z table s a)
  unfolding filled_action_at
  act-same s a = rw (no-rule s, action-same (action_at z table s a))

  go_same : (s x : ℕ) → go_of (filled_goto_at z table sgoto s x) ≡ go_of (goto_at z table s x)
  unfolding filled_goto_at
  go_same s x = rw (no-state (x - z.terminals), goto-same (goto_at z table s x))

  pub unsigned_reads_lem : plain_reads z table srule sgoto ≡ unsigned_reads z table
  unfolding plain_reads unsigned_reads
  unsigned_reads_lem =
      ap₂ {C = Reads} (λ (f : ℕ → ℕ → Act) (h : ℕ → ℕ → Go). record { act = f; go = h })
      (fun_ext (λ s. fun_ext (λ a. act-same s a)))
      (fun_ext (λ s. fun_ext (λ x. go_same s x)))
