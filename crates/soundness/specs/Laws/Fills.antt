-- The filled table is the unsigned one with reductions and gotos in some of its blanks, and nothing else. Assumes nothing.
use Rattle.std.specs.Prelude.{◌≡◌, Bool, true, false, cond, List, ℕ, ◌-◌, eqb, ℤ, get_or, Option, Some, None}
use Rattle.std.proofs.Common.{arith}
use Rattle.tables.specs.declared.Sizes.{Sizes}
use Rattle.tables.specs.declared.Action.{Action}
use Rattle.tables.specs.declared.Action.TheVariants as action
use Rattle.tables.specs.Entry.{action_at, goto_at}
use Rattle.tables.specs.Filled.{signed_action, signed_goto, filled_action, filled_goto, filled_action_at, filled_goto_at}
use Rattle.reads.specs.Reads.{Act, shift, reduce, accept, blank, Go, goes, nowhere, Reads}
use Rattle.machine.specs.Reads.{act_of, go_of, plain_reads, unsigned_reads}

-- an action stays, or is a reduction in place of a blank
pub data FillsAct : Act → Act → Type 0 where
  act-stays : {x : Act} → FillsAct x x
  act-signed : {r : ℕ} → FillsAct blank (reduce r)

-- a goto stays, or is one in place of a blank
pub data FillsGo : Go → Go → Type 0 where
  go-stays : {x : Go} → FillsGo x x
  go-signed : {t : ℕ} → FillsGo nowhere (goes t)

-- v is u with some blanks filled
pub record Fills (u v : Reads) : Type 0 where
  pub acts : (s a : ℕ) → FillsAct (u.act s a) (v.act s a)
  pub gos : (s x : ℕ) → FillsGo (u.go s x) (v.go s x)

-- a shift of the filled table is one of the unsigned table, and so is accept
pub fills-shift : {x y : Act} {t : ℕ} → FillsAct x y → y ≡ shift t → x ≡ shift t
fills-shift act-stays e = e
fills-shift act-signed e = let z : ◌≡◌ {A = ℕ} 0 1 = cc in absurd (omega arith)

pub fills-accept : {x y : Act} → FillsAct x y → y ≡ accept → x ≡ accept
fills-accept act-stays e = e
fills-accept act-signed e = let z : ◌≡◌ {A = ℕ} 0 1 = cc in absurd (omega arith)

-- ---- the table's reads

action-fills : (r : ℕ) (a : Action) → FillsAct (act_of a) (act_of (filled_action r a))
unfolding signed_action
action-fills r action.Blank = by (eqb r 0)
  where
    by : (b : Bool) → FillsAct blank (act_of (cond b action.Blank (action.Reduce r)))
    by true = act-stays
    by false = act-signed
action-fills r (action.Shift t) = act-stays
action-fills r (action.Reduce q) = act-stays
action-fills r action.Accept = act-stays

goto-fills : (t : ℕ) (x : Option ℕ) → FillsGo (go_of x) (go_of (filled_goto t x))
unfolding signed_goto
goto-fills t None = by (eqb t 0)
  where
    by : (b : Bool) → FillsGo nowhere (go_of (cond b None (Some t)))
    by true = go-stays
    by false = go-signed
goto-fills t (Some s) = go-stays

pub plain-fills : (z : Sizes) (table : List ℤ) (srule sgoto : List ℕ) → Fills (unsigned_reads z table) (plain_reads z table srule sgoto)
unfolding plain_reads unsigned_reads filled_action_at filled_goto_at
plain-fills z table srule sgoto =
    record {
      acts = λ s a. action-fills (get_or srule s 0) (action_at z table s a);
      gos = λ s x. goto-fills (get_or sgoto (x - z.terminals) 0) (goto_at z table s x);
    }
