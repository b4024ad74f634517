-- Steps of placement only add: what is taken, placed or chosen stays so. Assumes nothing.
use Rattle.std.specs.Prelude.{◌≡◌, refl, ℕ, ◌≤◌, Bool, true, false, eqb}
use Rattle.std.proofs.Common.{sym, ap, ◌∙◌, subst, arith, eqb-true, eq-eqb, ne_eqb}
use Rattle.std.proofs.Math.Option.{none, some}
use Rattle.std.proofs.lemmas.Bool.{eqb-false}
use Rattle.cells.specs.Read.{Kind, action, goto}
use Rattle.packing.specs.Board.{Owner, free, St, is_free, upd, same_kind, put, house, set_base}

-- ---- updates

pub upd_same {ℓ} : {X : Type ℓ} (f : ℕ → X) (i : ℕ) (v : X) → upd f i v i ≡ v
upd_same f i v = rw (eq-eqb i i refl)

pub upd_other {ℓ} : {X : Type ℓ} (f : ℕ → X) (i : ℕ) (v : X) (j : ℕ) → (j ≡ i → ⊥) → upd f i v j ≡ f j
upd_other f i v j h = rw (ne_eqb j i h)

-- what an updated function holds at j: the new value at i, or the old one elsewhere
pub data Upd {ℓ} {X : Type ℓ} (f : ℕ → X) (i : ℕ) (v : X) (j : ℕ) : Type ℓ where
  here : j ≡ i → upd f i v j ≡ v → Upd f i v j
  there : (j ≡ i → ⊥) → upd f i v j ≡ f j → Upd f i v j

pub upd-at {ℓ} : {X : Type ℓ} (f : ℕ → X) (i : ℕ) (v : X) (j : ℕ) → Upd f i v j
upd-at f i v j = go (eqb j i) refl
  where
    go : (t : Bool) → eqb j i ≡ t → Upd f i v j
    go true e = here (eqb-true j i e) (rw e)
    go false e = there (eqb-false j i e) (rw e)

-- ---- growth

pub record Grow (P Q : St) : Type 0 where
  pub owners : (c : ℕ) (o : Owner) → is_free o ≡ false → P.owner c ≡ o → Q.owner c ≡ o
  pub places : (s x : ℕ) → P.place s ≡ some x → Q.place s ≡ some x
  pub bases : (κ : Kind) (s : ℕ) → 1 ≤ P.base κ s → Q.base κ s ≡ P.base κ s
  pub tops : P.top ≤ Q.top

pub grow-refl : (P : St) → Grow P P
grow-refl P = record { owners = λ c o h e. e; places = λ s x e. e; bases = λ κ s h. refl; tops = omega arith }

pub grow-trans : {P Q R : St} → Grow P Q → Grow Q R → Grow P R
grow-trans {P} {Q} {R} g h =
    record {
      owners = λ c o f e. h.owners c o f (g.owners c o f e);
      places = λ s x e. h.places s x (g.places s x e);
      bases = λ κ s l. h.bases κ s (subst (λ (n : ℕ). 1 ≤ n) (sym (g.bases κ s l)) l) ∙ g.bases κ s l;
      tops = let x = g.tops in let y = h.tops in omega arith;
    }

pub grow-put : (P : St) (c : ℕ) (o : Owner) → P.owner c ≡ free → Grow P (put c o P)
unfolding put
grow-put P c o e =
    record {
      owners = λ d q f h. go d q f h (upd-at P.owner c o d);
      places = λ s x h. h;
      bases = λ κ s h. refl;
      tops = omega arith;
    }
  where
    go : (d : ℕ) (q : Owner) → is_free q ≡ false → P.owner d ≡ q → Upd P.owner c o d → upd P.owner c o d ≡ q
    go d q f h (here i u) = absurd (no-free (subst (λ (z : Owner). is_free z ≡ false) (sym h ∙ ap P.owner i ∙ e) f))
      where
        no-free : is_free free ≡ false → ⊥
        no-free z = let w : ◌≡◌ {A = ℕ} 0 1 = cc in omega arith
    go d q f h (there i u) = u ∙ h

pub grow-house : (P : St) (t c : ℕ) → P.place t ≡ none → Grow P (house t c P)
unfolding house
grow-house P t c e =
    record { owners = λ d q f h. h; places = λ s x h. go s x h (upd-at P.place t (some c) s); bases = λ κ s h. refl; tops = omega arith }
  where
    go : (s x : ℕ) → P.place s ≡ some x → Upd P.place t (some c) s → upd P.place t (some c) s ≡ some x
    go s x h (here i u) = let z : none ≡ some x = sym e ∙ ap P.place (sym i) ∙ h in cc
    go s x h (there i u) = u ∙ h

-- a base is set where there was none
pub data SetB (P : St) (κ : Kind) (s b : ℕ) (k : Kind) (r : ℕ) : Type 0 where
  this-row : k ≡ κ → r ≡ s → (set_base κ s b P).base k r ≡ b → SetB P κ s b k r
  other_row : ((k ≡ κ) × (r ≡ s) → ⊥) → (set_base κ s b P).base k r ≡ P.base k r → SetB P κ s b k r

pub kind-eq : (k κ : Kind) → same_kind k κ ≡ true → k ≡ κ
kind-eq action action e = refl
kind-eq action goto e = cc
kind-eq goto action e = cc
kind-eq goto goto e = refl

pub kind-refl : (k : Kind) → same_kind k k ≡ true
kind-refl action = refl
kind-refl goto = refl

pub setb-at : (P : St) (κ : Kind) (s b : ℕ) (k : Kind) (r : ℕ) → SetB P κ s b k r
unfolding set_base
setb-at P κ s b k r = go (same_kind k κ) (eqb r s) refl refl
  where
    go : (x y : Bool) → same_kind k κ ≡ x → eqb r s ≡ y → SetB P κ s b k r
    go true true e f = this-row (kind-eq k κ e) (eqb-true r s f) (rw (e, f))
    go true false e f = other_row (λ z. eqb-false r s f z.1) (rw (e, f))
    go false y e f = other_row (λ z. let w : true ≡ false = sym (kind-refl κ) ∙ ap (λ (q : Kind). same_kind q κ) (sym z.0) ∙ e in let u : ◌≡◌ {A = ℕ} 0 1 = cc in omega arith) (rw e)

pub setb-same : (P : St) (κ : Kind) (s b : ℕ) → (set_base κ s b P).base κ s ≡ b
unfolding set_base
setb-same P κ s b = rw (kind-refl κ, eq-eqb s s refl)

pub grow-setb : (P : St) (κ : Kind) (s b : ℕ) → P.base κ s ≡ 0 → Grow P (set_base κ s b P)
unfolding set_base
grow-setb P κ s b e =
    record { owners = λ d q f h. h; places = λ r x h. h; bases = λ k r h. go k r h (setb-at P κ s b k r); tops = omega arith }
  where
    go : (k : Kind) (r : ℕ) → 1 ≤ P.base k r → SetB P κ s b k r → (set_base κ s b P).base k r ≡ P.base k r
    go k r h (this-row i j u) = let z : P.base k r ≡ 0 = rw (i, j) e in omega arith
    go k r h (other_row i u) = u
