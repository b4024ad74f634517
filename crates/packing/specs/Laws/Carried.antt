-- The job's filled table is the table's: what a read says of the one it carries of the other. Assumes nothing.
use Rattle.std.specs.Prelude.{◌≡◌, Bool, true, false, List, eqb, ℤ, pos, negsuc, get_or, ℕ, zero, suc, ◌-◌, ◌≤◌, ◌<◌, cond, Option, Some}
use Rattle.std.proofs.Common.{ap, ◌∙◌, arith, ne_eqb}
use Rattle.std.proofs.Math.Option.{some}
use Rattle.number.specs.Number.{sign_of}
use Rattle.tables.specs.declared.Sizes.{Sizes}
use Rattle.tables.specs.Entry.{entry_at, action_of, goto_of, action_at, goto_at}
use Rattle.tables.specs.Filled.{signed_action, signed_goto, filled_action, filled_goto, filled_action_at, filled_goto_at}
use Rattle.reads.specs.declared.Read.{Read}
use Rattle.reads.specs.declared.Read.TheVariants.{Reduce, Accept}
use Rattle.cells.specs.Read.{Kind, action, goto, cells_of, read_cell}
use Rattle.tables.specs.declared.Action.TheVariants as act
use Rattle.packing.specs.Job.{Job, view, job_of}
use Rattle.packing.specs.Rows.{rule_sign, state_sign}
use Rattle.packing.specs.Packed.{Packed, pack}
use Rattle.packing.specs.Valid.{Valid, Edition}
use Rattle.packing.specs.Promises.{Carries, CarriesGoto}
use Rattle.packing.specs.Laws.Rows.{or_else, filled}
use Rattle.packing.specs.Laws.WellFormed.{OkGoto, InCols}
use Rattle.packing.specs.Laws.Tabulate.{two}
use Rattle.packing.specs.Laws.Reading.{Says}
use Rattle.packing.specs.Laws.Packed.{packed-says}
use Rattle.packing.specs.Laws.Valid.{rule-at, job-wf}

-- ---- a terminal's entry e, with q signed

module _ (places : List ℕ) (r : Option Read) where
  carries-sign : (q : ℕ) → (1 ≤ q → 2 ≤ q) → Says (λ t. get_or places t 0) r (rule_sign q) → Carries places r (signed_action q)
  unfolding signed_action
  carries-sign zero two h = h
  carries-sign (suc q) two h =
      let l = two (omega arith) in
      rw (ne_eqb (suc q) 0 (omega arith)) (h ∙ ap (λ (b : Bool). cond b (Some Accept) (Some (Reduce (suc q)))) (ne_eqb (suc q) 1 (omega arith)))

  carries : (e : ℤ) (q : ℕ) → (1 ≤ q → 2 ≤ q) → Says (λ t. get_or places t 0) r (or_else (view e) (rule_sign q)) → Carries places r (filled_action q (action_of (sign_of e)))
  carries (pos zero) q two h = carries-sign q two h
  carries (pos (suc t)) q two h = rw (ne_eqb (suc t) 0 (omega arith)) h
  carries (negsuc n) q two h = by (eqb (suc n) 1) h
    where
      by : (b : Bool) → r ≡ cond b (Some Accept) (Some (Reduce (suc n))) → Carries places r (filled_action q (cond b act.Accept (act.Reduce (suc n))))
      by true h = h
      by false h = h

  -- ---- a nonterminal's entry e, with t signed

  carries-target : (t : ℕ) → Says (λ t. get_or places t 0) r (state_sign t) → CarriesGoto places r (signed_goto t)
  unfolding signed_goto
  carries-target zero h = h
  carries-target (suc t) h = rw (ne_eqb (suc t) 0 (omega arith)) h

  carries-goto : (J : Job) (e : ℤ) (t : ℕ) → OkGoto J (view e) → Says (λ t. get_or places t 0) r (or_else (view e) (state_sign t)) → CarriesGoto places r (filled_goto t (goto_of (sign_of e)))
  carries-goto J (pos zero) t ok h = carries-target t h
  carries-goto J (pos (suc n)) t ok h = rw (ne_eqb (suc n) 0 (omega arith)) h
  carries-goto J (negsuc n) t ok h = absurd ok

-- ---- PACKED, over the table and the signing

module _ (z : Sizes) (states : ℕ) (table : List ℤ) (srule sgoto : List ℕ) (v : Valid z states table srule sgoto) (off : ℕ → ℕ) (ed : Edition z.terminals off)
    (W : ℕ) (A : Packed) (e : pack (job_of off z states table srule sgoto) W ≡ some A) where
  says : (κ : Kind) (s a : ℕ) → s < states → InCols (job_of off z states table srule sgoto) κ a
      → Says (λ t. get_or A.places t 0) (read_cell κ (cells_of z.rules off A.bases A.checks) (get_or A.places s 0) a) (filled (job_of off z states table srule sgoto) κ s a)
  says κ s a ls l =
      unfold job_of in
      packed-says (job_of off z states table srule sgoto) W A e (job-wf z states table srule sgoto v off ed) κ s a ls l

  pub packed-action : (s a : ℕ) → s < states → a < z.terminals
      → Carries A.places (read_cell action (cells_of z.rules off A.bases A.checks) (get_or A.places s 0) a) (filled_action_at z table srule s a)
  unfolding filled_action_at action_at
  packed-action s a ls la =
      carries A.places (read_cell action (cells_of z.rules off A.bases A.checks) (get_or A.places s 0) a) (entry_at z table s a) (get_or srule s 0)
      (λ l. (rule-at z states table srule sgoto v s l).0) (unfold job_of in says action s a ls la)

  pub packed-goto : (s x : ℕ) → s < states → z.terminals ≤ x → x < z.symbols
      → CarriesGoto A.places (read_cell goto (cells_of z.rules off A.bases A.checks) (get_or A.places s 0) x) (filled_goto_at z table sgoto s x)
  unfolding filled_goto_at goto_at
  packed-goto s x ls tx lx =
      carries-goto A.places (read_cell goto (cells_of z.rules off A.bases A.checks) (get_or A.places s 0) x) (job_of off z states table srule sgoto) (entry_at z table s x)
      (get_or sgoto (x - z.terminals) 0) (unfold job_of in (job-wf z states table srule sgoto v off ed).nonterm s x ls tx lx) (unfold job_of in says goto s x ls (tx, lx))
