-- What placement keeps: each owner stands where its row's base says, each placed state has its two cells. Assumes nothing.
use Rattle.std.specs.Prelude.{◌≡◌, refl, ◌≢◌, ℕ, suc, ◌+◌, ◌*◌, ◌≤◌, ◌<◌, max, false}
use Rattle.std.proofs.Common.{sym, ap, ◌∙◌, subst, arith}
use Rattle.std.proofs.Math.Option.{some}
use Rattle.cells.specs.Read.{Kind}
use Rattle.packing.specs.Job.{blank, shift, Job}
use Rattle.packing.specs.Rows.{row, rep}
use Rattle.packing.specs.Board.{Owner, free, own, att, ent, dflt, St, is_free, upd, put, house, set_base}
use Rattle.packing.specs.Laws.Grow.{Upd, here, there, upd-at, Grow, grow-put, SetB, this-row, other_row, setb-at, grow-setb}

-- a cell with this owner is where s stands
abbrev pub IsHome : Job → Owner → ℕ → Type 0
IsHome J free s = ⊥
IsHome J (own r) s = r ≡ s
IsHome J (att r) s = ⊥
IsHome J (ent κ r a) s = row J κ r a ≡ shift s
IsHome J (dflt A) s = J.gsig A ≡ s

-- the entry of row s at a stands where its base says, and is written
pub record EntAt (J : Job) (P : St) (c : ℕ) (κ : Kind) (s a : ℕ) : Type 0 where
  pub at : c ≡ P.base κ s + 2 * a
  pub some-base : 1 ≤ P.base κ s
  pub written : row J κ s a ≢ blank

-- what may be said of the owner of the cell c
abbrev pub Fit : Job → St → ℕ → Owner → Type 0
Fit J P c free = Unit {0}
Fit J P c (own s) = Unit {0}
Fit J P c (att s) = Unit {0}
Fit J P c (ent κ s a) = EntAt J P c κ s a
Fit J P c (dflt A) = (c ≡ J.off A) × (1 ≤ J.gsig A)

-- owners stand where they must; a placed state has its cell and its attached cell; no cell from `top` on is taken, and the one below is; rows with one base share it
pub record Sound (J : Job) (P : St) : Type 0 where
  pub fit : (c : ℕ) → Fit J P c (P.owner c)
  pub home : (s x : ℕ) → P.place s ≡ some x → IsHome J (P.owner x) s
  pub attached : (s x : ℕ) → P.place s ≡ some x → P.owner (suc x) ≡ att s
  pub below : (c : ℕ) → is_free (P.owner c) ≡ false → c < P.top
  pub tight : (c : ℕ) → P.top ≡ suc c → is_free (P.owner c) ≡ false
  pub inj : (κ : Kind) (s r : ℕ) → 1 ≤ P.base κ s → P.base κ s ≡ P.base κ r → rep J κ s ≡ rep J κ r

-- ---- the three primitives

pub fit-base : (J : Job) (P Q : St) (c : ℕ) (o : Owner) → ((κ : Kind) (s : ℕ) → 1 ≤ P.base κ s → Q.base κ s ≡ P.base κ s) → Fit J P c o → Fit J Q c o
fit-base J P Q c free g f = tt
fit-base J P Q c (own s) g f = tt
fit-base J P Q c (att s) g f = tt
fit-base J P Q c (ent κ s a) g f =
    let e : Q.base κ s ≡ P.base κ s = g κ s f.some-base in
    record { at = rw e f.at; some-base = rw e f.some-base; written = f.written }
fit-base J P Q c (dflt A) g f = f

pub home-taken : (J : Job) (o : Owner) (s : ℕ) → IsHome J o s → is_free o ≡ false
home-taken J free s h = absurd h
home-taken J (own r) s h = refl
home-taken J (att r) s h = refl
home-taken J (ent κ r a) s h = refl
home-taken J (dflt A) s h = refl

pub sound-put : (J : Job) (P : St) (c : ℕ) (o : Owner) → P.owner c ≡ free → is_free o ≡ false → Fit J P c o → Sound J P → Sound J (put c o P)
unfolding put
sound-put J P c o e nf f S =
    record {
      fit = λ d. go d (upd-at P.owner c o d);
      home = λ s x h. let k = S.home s x h in subst (λ (z : Owner). IsHome J z s) (sym (g.owners x (P.owner x) (home-taken J (P.owner x) s k) refl)) k;
      attached = λ s x h. g.owners (suc x) (att s) refl (S.attached s x h);
      below = λ d h. low d h (upd-at P.owner c o d);
      tight = λ d h. high d h (upd-at P.owner c o d);
      inj = S.inj;
    }
  where
    g : Grow P (put c o P)
    g = grow-put P c o e

    go : (d : ℕ) → Upd P.owner c o d → Fit J (put c o P) d (upd P.owner c o d)
    go d (here i u) = rw (u, i) (fit-base J P (put c o P) c o (λ κ s h. refl) f)
    go d (there i u) = rw u (fit-base J P (put c o P) d (P.owner d) (λ κ s h. refl) (S.fit d))

    low : (d : ℕ) → is_free (upd P.owner c o d) ≡ false → Upd P.owner c o d → d < max P.top (suc c)
    low d h (here i u) = omega arith
    low d h (there i u) = let k : d < P.top = S.below d (rw u at h) in omega arith

    high : (d : ℕ) → max P.top (suc c) ≡ suc d → Upd P.owner c o d → is_free (upd P.owner c o d) ≡ false
    high d h (here i u) = rw u nf
    high d h (there i u) = rw u (S.tight d (omega arith))

pub sound-house : (J : Job) (P : St) (t c : ℕ) → IsHome J (P.owner c) t → P.owner (suc c) ≡ att t → Sound J P → Sound J (house t c P)
unfolding house
sound-house J P t c h a S =
    record {
      fit = λ d. fit-base J P (house t c P) d (P.owner d) (λ κ s k. refl) (S.fit d);
      home = λ s x k. hom s x k (upd-at P.place t (some c) s);
      attached = λ s x k. atc s x k (upd-at P.place t (some c) s);
      below = S.below;
      tight = S.tight;
      inj = S.inj;
    }
  where
    inv : (s x : ℕ) → upd P.place t (some c) s ≡ some x → upd P.place t (some c) s ≡ some c → c ≡ x
    inv s x k u = cc

    hom : (s x : ℕ) → upd P.place t (some c) s ≡ some x → Upd P.place t (some c) s → IsHome J (P.owner x) s
    hom s x k (here i u) = rw (i, ← inv s x k u) h
    hom s x k (there i u) = S.home s x (sym u ∙ k)

    atc : (s x : ℕ) → upd P.place t (some c) s ≡ some x → Upd P.place t (some c) s → P.owner (suc x) ≡ att s
    atc s x k (here i u) = rw (i, ← inv s x k u) a
    atc s x k (there i u) = S.attached s x (sym u ∙ k)

pub sound-setb : (J : Job) (P : St) (κ : Kind) (s b : ℕ) → P.base κ s ≡ 0 → ((r : ℕ) → P.base κ r ≡ b → rep J κ r ≡ rep J κ s) → Sound J P → Sound J (set_base κ s b P)
sound-setb J P κ s b e new S =
    record {
      fit = λ d. unfold set_base in fit-base J P (set_base κ s b P) d (P.owner d) (grow-setb P κ s b e).bases (S.fit d);
      home = unfold set_base in S.home;
      attached = unfold set_base in S.attached;
      below = unfold set_base in S.below;
      tight = unfold set_base in S.tight;
      inj = λ k p q h i. go k p q h i (setb-at P κ s b k p) (setb-at P κ s b k q);
    }
  where
    go : (k : Kind) (p q : ℕ) → 1 ≤ (set_base κ s b P).base k p → (set_base κ s b P).base k p ≡ (set_base κ s b P).base k q → SetB P κ s b k p → SetB P κ s b k q → rep J k p ≡ rep J k q
    go k p q h i (this-row x y u) (this-row x' y' u') = ap (rep J k) (y ∙ sym y')
    go k p q h i (this-row x y u) (other_row z u') = rw (x, y) (sym (new q (rw x at (sym u' ∙ sym i ∙ u))))
    go k p q h i (other_row z u) (this-row x y u') = rw (x, y) (new p (rw x at (sym u ∙ i ∙ u')))
    go k p q h i (other_row z u) (other_row z' u') = S.inj k p q (rw u at h) (sym u ∙ i ∙ u')

-- ---- no two states stand at one cell

one-home : (J : Job) (o : Owner) (s r : ℕ) → IsHome J o s → IsHome J o r → s ≡ r
one-home J free s r h k = absurd h
one-home J (own q) s r h k = sym h ∙ k
one-home J (att q) s r h k = absurd h
one-home J (ent κ q a) s r h k = cc
one-home J (dflt A) s r h k = sym h ∙ k

pub place-inj : (J : Job) (P : St) (s r x : ℕ) → Sound J P → P.place s ≡ some x → P.place r ≡ some x → s ≡ r
place-inj J P s r x S e i = one-home J (P.owner x) s r (S.home s x e) (S.home r x i)
