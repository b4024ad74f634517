-- Owners know their states' cells, and taking one or two cells keeps all. Assumes nothing.
use Rattle.std.specs.Prelude.{◌≡◌, refl, ℕ, suc, Bool, true, false, ◌&&◌}
use Rattle.std.proofs.Common.{◌∙◌, subst, arith}
use Rattle.std.proofs.Math.Option.{none, some}
use Rattle.tables.specs.Laws.Tests.{and-true}
use Rattle.packing.specs.Job.{shift, Job}
use Rattle.packing.specs.Rows.{row}
use Rattle.packing.specs.Board.{Owner, free, own, att, ent, dflt, St, is_free, upd, put, house, guard, plain, settle}
use Rattle.packing.specs.Laws.Grow.{upd_same, upd_other, Upd, here, there, upd-at, Grow, grow-refl, grow-trans, grow-put, grow-house}
use Rattle.packing.specs.Laws.Sound.{IsHome, Fit, Sound, home-taken, sound-put, sound-house}

-- the state of the owner of c has a cell: c itself, the one before an attached cell, or any for the target of a shift
abbrev pub Tie : Job → St → ℕ → Owner → Type 0
Tie J P c free = Unit {0}
Tie J P c (own s) = P.place s ≡ some c
Tie J P c (att s) = (x : ℕ) × (c ≡ suc x) × (P.place s ≡ some x)
Tie J P c (ent κ s a) = (t : ℕ) → row J κ s a ≡ shift t → (x : ℕ) × (P.place t ≡ some x)
Tie J P c (dflt A) = P.place (J.gsig A) ≡ some c

abbrev pub Tied : Job → St → Type 0
Tied J P = (c : ℕ) → Tie J P c (P.owner c)

pub tie-places : (J : Job) (P Q : St) (c : ℕ) (o : Owner) → ((s x : ℕ) → P.place s ≡ some x → Q.place s ≡ some x) → Tie J P c o → Tie J Q c o
tie-places J P Q c free g h = tt
tie-places J P Q c (own s) g h = g s c h
tie-places J P Q c (att s) g h = (h.0, h.1, g s h.0 h.2)
tie-places J P Q c (ent κ s a) g h = λ t e. let p = h t e in (p.0, g t p.0 p.1)
tie-places J P Q c (dflt A) g h = g (J.gsig A) c h

pub home-tie : (J : Job) (Q : St) (c : ℕ) (o : Owner) (t : ℕ) → IsHome J o t → Q.place t ≡ some c → Tie J Q c o
home-tie J Q c free t h e = tt
home-tie J Q c (own r) t h e = rw h e
home-tie J Q c (att r) t h e = absurd h
home-tie J Q c (ent κ r a) t h e = λ u k. let q : t ≡ u = cc in (c, rw (← q) e)
home-tie J Q c (dflt A) t h e = rw h e

-- ---- what a step of placement does

pub record Good (J : Job) (P Q : St) : Type 0 where
  pub grow : Grow P Q
  pub sound : Sound J Q
  pub bases : Q.base ≡ P.base
  pub ties : Tied J P → Tied J Q

pub good-trans : (J : Job) (P Q R : St) → Good J P Q → Good J Q R → Good J P R
good-trans J P Q R g h = record { grow = grow-trans g.grow h.grow; sound = h.sound; bases = h.bases ∙ g.bases; ties = λ t. h.ties (g.ties t) }

pub free_of : (o : Owner) → is_free o ≡ true → o ≡ free
free_of free e = refl
free_of (own s) e = cc
free_of (att s) e = cc
free_of (ent κ s a) e = cc
free_of (dflt A) e = cc

-- a guard that let through
pub record Through (b : Bool) (P Q : St) : Type 0 where
  pub test : b ≡ true
  pub out : P ≡ Q

pub through : (b : Bool) (P Q : St) → guard b P ≡ some Q → Through b P Q
through true P Q e = record { test = refl; out = cc }
through false P Q e = record { test = cc; out = cc }

pub put-at : (P : St) (c : ℕ) (o : Owner) → (put c o P).owner c ≡ o
unfolding put
put-at P c o = upd_same P.owner c o

pub put_other : (P : St) (c : ℕ) (o : Owner) (d : ℕ) → (d ≡ c → ⊥) → (put c o P).owner d ≡ P.owner d
unfolding put
put_other P c o d h = upd_other P.owner c o d h

pub house-at : (P : St) (t c : ℕ) → (house t c P).place t ≡ some c
unfolding house
house-at P t c = upd_same P.place t (some c)

pub put-ties : (J : Job) (P : St) (c : ℕ) (o : Owner) → Tie J P c o → Tied J P → Tied J (put c o P)
unfolding put
put-ties J P c o h t d = go (upd-at P.owner c o d)
  where
    go : Upd P.owner c o d → Tie J (put c o P) d (upd P.owner c o d)
    go (here i u) = rw (u, i) (tie-places J P (put c o P) c o (λ s x e. e) h)
    go (there i u) = rw u (tie-places J P (put c o P) d (P.owner d) (λ s x e. e) (t d))

pub plain_ok : (J : Job) (o : Owner) (c : ℕ) (P Q : St) → Fit J P c o → is_free o ≡ false → Tie J P c o → Sound J P → plain o c P ≡ some Q → Good J P Q × (Q.owner c ≡ o)
unfolding plain
plain_ok J o c P Q f nf ti S e =
    let g = through (is_free (P.owner c)) (put c o P) Q e in
    let z : P.owner c ≡ free = free_of (P.owner c) g.test in
    subst (λ (R : St). Good J P R × (R.owner c ≡ o)) g.out
    (record { grow = grow-put P c o z; sound = sound-put J P c o z nf f S; bases = unfold put in refl; ties = put-ties J P c o ti }, put-at P c o)

pub settle-ok : (J : Job) (o : Owner) (t c : ℕ) (P Q : St) → Fit J P c o → IsHome J o t → P.place t ≡ none → Sound J P → settle o t c P ≡ some Q
    → Good J P Q × (Q.owner c ≡ o) × (Q.place t ≡ some c)
unfolding settle
settle-ok J o t c P Q f h n S e =
    let g = through (is_free (P.owner c) && is_free (P.owner (suc c))) (house t c (put (suc c) (att t) (put c o P))) Q e in
    let bt = and-true (is_free (P.owner c)) g.test in
    subst (λ (R : St). Good J P R × (R.owner c ≡ o) × (R.place t ≡ some c)) g.out
    (all (free_of (P.owner c) bt.0) (free_of (P.owner (suc c)) bt.1))
  where
    P₁ : St
    P₁ = put c o P

    P₂ : St
    P₂ = put (suc c) (att t) P₁

    tied : ((s x : ℕ) → P.place s ≡ some x → P₂.place s ≡ some x) → ((s x : ℕ) → P₂.place s ≡ some x → (house t c P₂).place s ≡ some x)
        → Tied J P → (d : ℕ) → Upd P.owner c o d → Upd (upd P.owner c o) (suc c) (att t) d → Tie J (house t c P₂) d ((house t c P₂).owner d)
    tied g k tie d u (here i w) = unfold put house in rw w (c, i, house-at P₂ t c)
    tied g k tie d (here i u) (there j w) = unfold put house in rw (w, u, i) (home-tie J (house t c P₂) c o t h (house-at P₂ t c))
    tied g k tie d (there i u) (there j w) = unfold put house in rw (w, u) (tie-places J P (house t c P₂) d (P.owner d) (λ s x e. k s x (g s x e)) (tie d))

    all : P.owner c ≡ free → P.owner (suc c) ≡ free → Good J P (house t c P₂) × ((house t c P₂).owner c ≡ o) × ((house t c P₂).place t ≡ some c)
    all z w =
        let z₁ : P₁.owner (suc c) ≡ free = put_other P c o (suc c) (omega arith) ∙ w in
        let c₁ : P₁.owner c ≡ o = put-at P c o in
        let S₁ = sound-put J P c o z (home-taken J o t h) f S in
        let S₂ = sound-put J P₁ (suc c) (att t) z₁ refl tt S₁ in
        let g₂ = grow-trans (grow-put P c o z) (grow-put P₁ (suc c) (att t) z₁) in
        let c₂ : P₂.owner c ≡ o = (grow-put P₁ (suc c) (att t) z₁).owners c o (home-taken J o t h) c₁ in
        let a₂ : P₂.owner (suc c) ≡ att t = put-at P₁ (suc c) (att t) in
        let g₃ = grow-house P₂ t c (unfold put in n) in (
          record {
            grow = grow-trans g₂ g₃;
            sound = sound-house J P₂ t c (rw c₂ h) a₂ S₂;
            bases = unfold put house in refl;
            ties = λ tie d. tied g₂.places g₃.places tie d (upd-at P.owner c o d) (upd-at (upd P.owner c o) (suc c) (att t) d);
          },
          g₃.owners c o (home-taken J o t h) c₂,
          house-at P₂ t c,
        )

pub good-refl : (J : Job) (P : St) → Sound J P → Good J P P
good-refl J P S = record { grow = grow-refl P; sound = S; bases = refl; ties = λ t. t }
