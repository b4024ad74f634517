-- A read looks only at cells below W. Assumes nothing.
use Rattle.std.specs.Prelude.{◌≡◌, ℕ, zero, suc, ◌+◌, ◌-◌, ◌*◌, ◌<◌, Bool, true, false, not, ◌&&◌, ltb, eqb, ℤ, pos, negsuc, refl, cond, Option, Some, None}
use Rattle.std.proofs.Common.{ap, ap₂, ◌∙◌, arith, ltb-true}
use Rattle.tables.specs.Laws.Tests.{and-true}
use Rattle.reads.specs.declared.Way.{Way}
use Rattle.reads.specs.declared.Way.TheVariants.{Direct, Pointer}
use Rattle.reads.specs.declared.Read.{Read}
use Rattle.reads.specs.declared.Read.TheVariants.{Shift, Blank}
use Rattle.cells.specs.Read.{Kind, action, goto, Cells, is_pos, is_number, found, is_state, state_read, sign_read, entry_read, default_read, read_at, read_from, base_for, read_cell}

and-cong : (t : Bool) {p q : Bool} → (t ≡ true → p ≡ q) → (t && p) ≡ (t && q)
and-cong true h = h refl
and-cong false h = refl

cond-cong {ℓ} : {X : Type ℓ} (t : Bool) {x y z w : X} → (t ≡ true → x ≡ y) → z ≡ w → cond t x z ≡ cond t y w
cond-cong true h k = h refl
cond-cong false h k = k

module _ (G W : ℕ) (target : ℕ → ℕ) (b b' k k' : ℕ → ℤ) (hb : (c : ℕ) → c < W → b c ≡ b' c) (hk : (c : ℕ) → c < W → k c ≡ k' c) where
  abbrev C : Cells
  C = record { G = G; W = W; base = b; check = k; target = target }

  abbrev D : Cells
  D = record { G = G; W = W; base = b'; check = k'; target = target }

  found-cong : (t a : ℕ) → found C t a ≡ found D t a
  unfolding found
  found-cong t a = and-cong (ltb t W) (λ l. ap (λ (z : ℤ). is_number z a) (hk t (ltb-true t W l)))

  found_lt : (t a : ℕ) → found C t a ≡ true → t < W
  unfolding found
  found_lt t a e = ltb-true t W (and-true (ltb t W) e).0

  inner-cong : (y : ℕ) → (ltb (suc y) W && is_pos (b y)) ≡ (ltb (suc y) W && is_pos (b' y))
  inner-cong y = and-cong (ltb (suc y) W) (λ l. ap is_pos (hb y (let m = ltb-true (suc y) W l in omega arith)))

  state-cong : (a y : ℕ) (w : Way) → state_read C a w y ≡ state_read D a w y
  unfolding state_read is_state
  state-cong a y w = ap (λ (t : Bool). cond (not (eqb a 0) && (not (eqb y 0) && t)) (Some (Shift w)) None) (inner-cong y)

  entry-cong : (κ : Kind) (a t : ℕ) (z : ℤ) → entry_read κ C a t z ≡ entry_read κ D a t z
  entry-cong κ a t (pos n) = state-cong a t (Direct t)
  entry-cong action a t (negsuc n) = cond-cong (ltb G (suc n)) (λ e. state-cong a (suc n - G) (Pointer (suc n - G))) refl
  entry-cong goto a t (negsuc n) = cond-cong (ltb G (suc n)) (λ e. state-cong a (suc n - G) (Pointer (suc n - G))) refl

  default-cong : (κ : Kind) (x a : ℕ) → suc x < W → default_read κ C x a ≡ default_read κ D x a
  default-cong action x a l = ap (sign_read G) (hk (suc x) l)
  default-cong goto x a l =
      ap₂ (λ (t : Bool) (r : Option Read). cond t r (Some Blank)) (found-cong (target a) a) (state-cong a (target a) (Direct (target a)))

  at-cong : (κ : Kind) (x a t : ℕ) → suc x < W → read_at κ C x a t ≡ read_at κ D x a t
  unfolding read_at
  at-cong κ x a t l =
      cond-cong (found C t a) (λ e. ap (entry_read κ C a t) (hb t (found_lt t a e)) ∙ entry-cong κ a t (D.base t)) (default-cong κ x a l)
      ∙ ap (λ (f : Bool). cond f (entry_read κ D a t (D.base t)) (default_read κ D x a)) (found-cong t a)

  from-cong : (κ : Kind) (x a : ℕ) (z : ℤ) → suc x < W → read_from κ C x a z ≡ read_from κ D x a z
  from-cong action x a (pos n) l = at-cong action x a (n + 2 * a) l
  from-cong action x a (negsuc n) l = refl
  from-cong goto x a (pos zero) l = default-cong goto x a l
  from-cong goto x a (pos (suc n)) l = at-cong goto x a (suc n + 2 * a) l
  from-cong goto x a (negsuc n) l = default-cong goto x a l

  base-cong : (κ : Kind) (x : ℕ) → suc x < W → base_for κ C x ≡ base_for κ D x
  base-cong action x l = hb x (omega arith)
  base-cong goto x l = hb (suc x) l

  pub read-cong : (κ : Kind) (x a : ℕ) → read_cell κ C x a ≡ read_cell κ D x a
  unfolding read_cell
  read-cong κ x a =
      cond-cong (ltb (suc x) W && is_pos (b x))
      (λ e. let l = ltb-true (suc x) W (and-true (ltb (suc x) W) e).0 in from-cong κ x a (base_for κ C x) l ∙ ap (read_from κ D x a) (base-cong κ x l)) refl
      ∙ ap (λ (t : Bool). cond t (read_from κ D x a (base_for κ D x)) None) (inner-cong x)
