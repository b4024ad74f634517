-- Parts of a read, as the code takes them. Assumes nothing.
use Rattle.std.specs.Prelude.{◌≡◌, ◌≢◌, refl, Bool, true, false, not, cond, ◌&&◌, ℕ, zero, suc, ◌+◌, ◌-◌, ◌*◌, ltb, eqb, ℤ, pos, negsuc, Some, None}
use Rattle.reads.specs.declared.Way.{Way}
use Rattle.reads.specs.declared.Way.TheVariants.{Direct, Pointer}
use Rattle.reads.specs.declared.Read.TheVariants.{Shift, Reduce, Accept}
use Rattle.cells.specs.Read.{action, goto, Cells, is_state, state_read, rule_read, entry_read, found, default_read, read_at, read_from}
use Rattle.cells.specs.Parts.{goto_base, state_alone}

module _ (C : Cells) (a : ℕ) where
  state-stays : (w : Way) (y : ℕ) → state_read C a w y ≡ state_alone (state_read C a w y)
  unfolding state_read
  state-stays w y = by (not (eqb a 0) && is_state C y)
    where
      by : (b : Bool) → cond b (Some (Shift w)) None ≡ state_alone (cond b (Some (Shift w)) None)
      by true = refl
      by false = refl

  rule-goes : (r : ℕ) → None ≡ state_alone (rule_read a r)
  unfolding rule_read
  rule-goes r = by (eqb r 1) (eqb a 0)
    where
      by : (b d : Bool) → None ≡ state_alone (cond b (cond d (Some Accept) None) (Some (Reduce r)))
      by true true = refl
      by true false = refl
      by false d = refl

  -- a goto reads a cell as an action does, and a rule is no answer
  pub goto_entry : (t : ℕ) (v : ℤ) → entry_read goto C a t v ≡ state_alone (entry_read action C a t v)
  goto_entry t (pos n) = state-stays (Direct t) t
  goto_entry t (negsuc n) = by (ltb C.G (suc n))
    where
      by : (b : Bool)
          → cond b (state_read C a (Pointer (suc n - C.G)) (suc n - C.G)) None
          ≡ state_alone (cond b (state_read C a (Pointer (suc n - C.G)) (suc n - C.G)) (rule_read a (suc n)))
      by true = state-stays (Pointer (suc n - C.G)) (suc n - C.G)
      by false = rule-goes (suc n)

module _ (C : Cells) (x a : ℕ) where
  -- written: the base is not 0, and a is found from it
  pub goto_written : (b : ℕ) → b ≢ 0 → found C (b + 2 * a) a ≡ true
      → read_from goto C x a (pos b) ≡ state_alone (entry_read action C a (b + 2 * a) (C.base (b + 2 * a)))
  unfolding read_at
  goto_written zero h f = absurd (h refl)
  goto_written (suc b) h f = rw f (goto_entry C a (suc b + 2 * a) (C.base (suc b + 2 * a)))

  -- not written: the base is 0, or a is not found from it
  pub goto_base_zero : (b : ℕ) → b ≡ 0 → read_from goto C x a (pos b) ≡ default_read goto C x a
  goto_base_zero b h = rw h

  pub goto_not_found : (b : ℕ) → found C (b + 2 * a) a ≡ false → read_from goto C x a (pos b) ≡ default_read goto C x a
  unfolding read_at
  goto_not_found zero f = refl
  goto_not_found (suc b) f = rw f

-- a goto base below 0 means what 0 means
pub goto_from_base : (C : Cells) (x a b : ℕ) (v : ℤ) → b ≡ goto_base v → read_from goto C x a (pos b) ≡ read_from goto C x a v
goto_from_base C x a b (pos n) e = rw e
goto_from_base C x a b (negsuc n) e = rw e
