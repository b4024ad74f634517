-- What the filled table answers. Assumes nothing.
use Rattle.std.specs.Prelude.{◌≡◌, refl, ◌≢◌, Bool, true, false, cond, List, ℕ, suc, ◌-◌, ◌<◌, eqb, ℤ, pos, negsuc, get_or, Option, Some, None}
use Rattle.std.proofs.Common.{arith}
use Rattle.std.proofs.lemmas.Bool.{eqb-false}
use Rattle.number.specs.Number.{sign_of}
use Rattle.tables.specs.declared.Sizes.{Sizes}
use Rattle.tables.specs.declared.Action.{Action}
use Rattle.tables.specs.declared.Action.TheVariants.{Blank, Shift, Reduce, Accept}
use Rattle.tables.specs.Entry.{entry_at, action_of, action_at, goto_at}
use Rattle.tables.specs.Filled.{signed_action, signed_goto, filled_action, filled_goto, filled_action_at, filled_goto_at}

-- ---- entry by entry

-- what is written stays
action-stays : (r : ℕ) (a : Action) → a ≢ Blank → filled_action r a ≡ a
action-stays r Blank n = absurd (n refl)
action-stays r (Shift t) n = refl
action-stays r (Reduce q) n = refl
action-stays r Accept n = refl

goto-stays : (t : ℕ) (x : Option ℕ) → x ≢ None → filled_goto t x ≡ x
goto-stays t None n = absurd (n refl)
goto-stays t (Some s) n = refl

module _ (z : Sizes) (table : List ℤ) (srule : List ℕ) (s a : ℕ) where
  -- a written action stays as it is
  pub written-action : action_at z table s a ≢ Blank → filled_action_at z table srule s a ≡ action_at z table s a
  unfolding filled_action_at
  written-action n = action-stays (get_or srule s 0) (action_at z table s a) n

  -- a blank one is the signed rule of the state
  pub blank-action : action_at z table s a ≡ Blank → filled_action_at z table srule s a ≡ signed_action (get_or srule s 0)
  unfolding filled_action_at
  blank-action e = rw e

module _ (z : Sizes) (table : List ℤ) (sgoto : List ℕ) (s x : ℕ) where
  -- a written goto stays as it is
  pub written-goto : goto_at z table s x ≢ None → filled_goto_at z table sgoto s x ≡ goto_at z table s x
  unfolding filled_goto_at
  written-goto n = goto-stays (get_or sgoto (x - z.terminals) 0) (goto_at z table s x) n

  -- a blank one is the signed state of the nonterminal
  pub blank-goto : goto_at z table s x ≡ None → filled_goto_at z table sgoto s x ≡ signed_goto (get_or sgoto (x - z.terminals) 0)
  unfolding filled_goto_at
  blank-goto e = rw e

-- ---- the rules of its reductions

-- a reduction is by a rule from 1 on
abbrev Ruled : Action → Type 0
Ruled Blank = Unit {0}
Ruled (Shift t) = Unit {0}
Ruled (Reduce r) = 0 < r
Ruled Accept = Unit {0}

entry-ruled : (e : ℤ) → Ruled (action_of (sign_of e))
entry-ruled (pos n) = by (eqb n 0)
  where
    by : (b : Bool) → Ruled (cond b Blank (Shift n))
    by true = tt
    by false = tt
entry-ruled (negsuc n) = by (eqb (suc n) 1)
  where
    by : (b : Bool) → Ruled (cond b Accept (Reduce (suc n)))
    by true = tt
    by false = let h : 0 < suc n = omega arith in h

signed-ruled : (r : ℕ) → Ruled (signed_action r)
unfolding signed_action
signed-ruled r = by (eqb r 0) refl
  where
    by : (b : Bool) → eqb r 0 ≡ b → Ruled (cond b Blank (Reduce r))
    by true q = tt
    by false q = let n : r ≡ 0 → ⊥ = eqb-false _ _ q in let h : 0 < r = omega arith in h

filled-ruled : (r : ℕ) (a : Action) → Ruled a → Ruled (filled_action r a)
filled-ruled r Blank h = signed-ruled r
filled-ruled r (Shift t) h = tt
filled-ruled r (Reduce q) h = h
filled-ruled r Accept h = tt

-- the filled table reduces by no rule 0
pub rule-some : (z : Sizes) (table : List ℤ) (srule : List ℕ) (s a : ℕ) {r : ℕ} → filled_action_at z table srule s a ≡ Reduce r → 0 < r
unfolding filled_action_at action_at
rule-some z table srule s a {r} e =
    let k : Ruled (filled_action_at z table srule s a) = filled-ruled (get_or srule s 0) (action_at z table s a) (entry-ruled (entry_at z table s a)) in
    rw e at k
