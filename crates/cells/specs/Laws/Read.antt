-- What every read promises, whatever the cells hold. Assumes nothing.
use Rattle.std.specs.Prelude.{◌≡◌, Bool, not, cond, ◌&&◌, ℕ, zero, suc, ◌+◌, ◌-◌, ◌*◌, ◌≤◌, ◌<◌, ltb, leb, ℤ, pos, negsuc, Option, Some, None, refl, true, false, eqb}
use Rattle.std.proofs.Common.{arith, ltb-true, ltb-false, leb-true, eqb-true}
use Rattle.std.proofs.lemmas.Bool.{eqb-false}
use Rattle.tables.specs.Laws.Tests.{clash, and-true}
use Rattle.reads.specs.declared.Way.{Way}
use Rattle.reads.specs.declared.Way.TheVariants.{Direct, Pointer}
use Rattle.reads.specs.declared.Read.{Read}
use Rattle.reads.specs.declared.Read.TheVariants.{Shift, Reduce, Accept, Blank}
use Rattle.cells.specs.Read.{Kind, action, goto, Cells, is_pos, found, is_state, state_read, rule_read, sign_read, entry_read, default_read, read_at, read_from, base_for, read_cell}
use Rattle.reads.specs.Read.{way_cell}

-- a state stands at cell y: y is not 0, its attached cell is inside, and its Base is not negative
pub record Stands (C : Cells) (y : ℕ) : Type 0 where
  pub above : 0 < y
  pub inside : suc y < C.W
  pub plus : is_pos (C.base y) ≡ true

-- a shift is never on 0 and gives a cell at which a state stands; a rule is 2..G; accept is on 0 alone; no goto gives a rule
abbrev pub Promise : Kind → Cells → ℕ → Option Read → Type 0
Promise κ C a (Some (Shift w)) = (0 < a) × Stands C (way_cell w)
Promise action C a (Some (Reduce r)) = (2 ≤ r) × (r ≤ C.G)
Promise goto C a (Some (Reduce r)) = ⊥
Promise action C a (Some Accept) = a ≡ 0
Promise goto C a (Some Accept) = ⊥
Promise κ C a (Some Blank) = Unit {0}
Promise κ C a None = Unit {0}

above : (n : ℕ) → not (eqb n 0) ≡ true → 0 < n
above zero e = absurd (clash e refl)
above (suc n) e = omega arith

stands : (C : Cells) (y : ℕ) → is_state C y ≡ true → Stands C y
unfolding is_state
stands C y e =
    let p : (not (eqb y 0) ≡ true) × _ = and-true (not (eqb y 0)) e in
    let q : (ltb (suc y) C.W ≡ true) × (is_pos (C.base y) ≡ true) = and-true (ltb (suc y) C.W) p.1 in
    record { above = above y p.0; inside = ltb-true _ _ q.0; plus = q.1 }

module _ (C : Cells) (a : ℕ) where
  state-promise : (κ : Kind) (w : Way) → Promise κ C a (state_read C a w (way_cell w))
  unfolding state_read
  state-promise κ w = go (not (eqb a 0) && is_state C (way_cell w)) refl
    where
      go : (b : Bool) → (not (eqb a 0) && is_state C (way_cell w)) ≡ b → Promise κ C a (cond b (Some (Shift w)) None)
      go true e =
          let p : (not (eqb a 0) ≡ true) × _ = and-true (not (eqb a 0)) e in
          (above a p.0, stands C (way_cell w) p.1)
      go false e = tt

  rule-promise : (r : ℕ) → 0 < r → r ≤ C.G → Promise action C a (rule_read a r)
  unfolding rule_read
  rule-promise r h k = go (eqb r 1) refl (eqb a 0) refl
    where
      go : (b : Bool) → eqb r 1 ≡ b → (d : Bool) → eqb a 0 ≡ d → Promise action C a (cond b (cond d (Some Accept) None) (Some (Reduce r)))
      go true e true f = eqb-true a 0 f
      go true e false f = tt
      go false e d f = let n : r ≡ 1 → ⊥ = eqb-false r 1 e in (omega arith, k)

  sign-promise : (v : ℤ) → Promise action C a (sign_read C.G v)
  sign-promise (pos n) = tt
  sign-promise (negsuc n) = go (leb 2 (suc n) && leb (suc n) C.G) refl
    where
      go : (b : Bool) → (leb 2 (suc n) && leb (suc n) C.G) ≡ b → Promise action C a (cond b (Some (Reduce (suc n))) None)
      go true e =
          let p : (leb 2 (suc n) ≡ true) × (leb (suc n) C.G ≡ true) = and-true (leb 2 (suc n)) e in
          (leb-true _ _ p.0, leb-true _ _ p.1)
      go false e = tt

  entry-promise : (κ : Kind) (t : ℕ) (v : ℤ) → Promise κ C a (entry_read κ C a t v)
  entry-promise κ t (pos n) = state-promise κ (Direct t)
  entry-promise action t (negsuc n) = go (ltb C.G (suc n)) refl
    where
      go : (b : Bool) → ltb C.G (suc n) ≡ b → Promise action C a (cond b (state_read C a (Pointer (suc n - C.G)) (suc n - C.G)) (rule_read a (suc n)))
      go true e = state-promise action (Pointer (suc n - C.G))
      go false e = rule-promise (suc n) (omega arith) (ltb-false _ _ e)
  entry-promise goto t (negsuc n) = go (ltb C.G (suc n))
    where
      go : (b : Bool) → Promise goto C a (cond b (state_read C a (Pointer (suc n - C.G)) (suc n - C.G)) None)
      go true = state-promise goto (Pointer (suc n - C.G))
      go false = tt

  default-promise : (κ : Kind) (x : ℕ) → Promise κ C a (default_read κ C x a)
  default-promise action x = sign-promise (C.check (suc x))
  default-promise goto x = go (found C (C.target a) a)
    where
      go : (b : Bool) → Promise goto C a (cond b (state_read C a (Direct (C.target a)) (C.target a)) (Some Blank))
      go true = state-promise goto (Direct (C.target a))
      go false = tt

  at-promise : (κ : Kind) (x t : ℕ) → Promise κ C a (read_at κ C x a t)
  unfolding read_at
  at-promise κ x t = go (found C t a)
    where
      go : (b : Bool) → Promise κ C a (cond b (entry_read κ C a t (C.base t)) (default_read κ C x a))
      go true = entry-promise κ t (C.base t)
      go false = default-promise κ x

  from-promise : (κ : Kind) (x : ℕ) (v : ℤ) → Promise κ C a (read_from κ C x a v)
  from-promise action x (pos b) = at-promise action x (b + 2 * a)
  from-promise action x (negsuc b) = tt
  from-promise goto x (pos zero) = default-promise goto x
  from-promise goto x (pos (suc b)) = at-promise goto x (suc b + 2 * a)
  from-promise goto x (negsuc b) = default-promise goto x

  -- every read keeps its promise
  pub read-promise : (κ : Kind) (x : ℕ) → Promise κ C a (read_cell κ C x a)
  unfolding read_cell
  read-promise κ x = go (ltb (suc x) C.W && is_pos (C.base x))
    where
      go : (b : Bool) → Promise κ C a (cond b (read_from κ C x a (base_for κ C x)) None)
      go true = from-promise κ x (base_for κ C x)
      go false = tt
