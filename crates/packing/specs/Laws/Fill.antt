-- A row that was placed stands where its base says; a search finds the least. Assumes nothing.
use Rattle.std.specs.Prelude.{◌≡◌, refl, ◌≢◌, ℕ, zero, suc, ◌+◌, ◌*◌, ◌≤◌, ◌<◌, Bool, true, false, ◌||◌, eqb}
use Rattle.std.proofs.Common.{sym, ap, ◌∙◌, subst, arith}
use Rattle.std.proofs.Math.Option.{Option, none, some}
use Rattle.std.proofs.Math.Decide.{dec_le, dec_lt}
use Rattle.std.proofs.lemmas.Bool.{eqb-false}
use Rattle.cells.specs.Read.{Kind}
use Rattle.packing.specs.Job.{Act, blank, shift, rule, Job}
use Rattle.packing.specs.Rows.{row, rep}
use Rattle.packing.specs.Board.{ent, St, bind, first, toward, write, fill, used}
use Rattle.packing.specs.Laws.Rows.{below_suc}
use Rattle.packing.specs.Laws.Grow.{Grow}
use Rattle.packing.specs.Laws.Sound.{Fit, Sound}
use Rattle.packing.specs.Laws.Tied.{Good, good-trans, plain_ok, settle-ok, good-refl}

-- the entry of s at a stands where it must, and the state that it goes to has a cell
pub record Stored (J : Job) (P : St) (κ : Kind) (s a : ℕ) : Type 0 where
  pub owns : row J κ s a ≢ blank → P.owner (P.base κ s + 2 * a) ≡ ent κ (rep J κ s) a
  pub goes : (t : ℕ) → row J κ s a ≡ shift t → (x : ℕ) × (P.place t ≡ some x)

pub stored-grow : (J : Job) (P Q : St) (κ : Kind) (s a : ℕ) → Grow P Q → 1 ≤ P.base κ s → Stored J P κ s a → Stored J Q κ s a
stored-grow J P Q κ s a g l h =
    record {
      owns = λ w. rw (g.bases κ s l) (g.owners (P.base κ s + 2 * a) (ent κ (rep J κ s) a) refl (h.owns w));
      goes = λ t e. let p = h.goes t e in (p.0, g.places t p.0 p.1);
    }

pub record Wrote (J : Job) (P Q : St) (κ : Kind) (s a : ℕ) : Type 0 where
  pub good : Good J P Q
  pub stored : Stored J Q κ s a

pub ent-fit : (J : Job) (κ : Kind) (s a b : ℕ) (P : St) → P.base κ s ≡ b → 1 ≤ b → row J κ s a ≢ blank → Fit J P (b + 2 * a) (ent κ s a)
ent-fit J κ s a b P eb l w = record { at = rw eb; some-base = rw eb l; written = w }

pub base-at : (J : Job) (P Q : St) (κ : Kind) (s b : ℕ) → Good J P Q → P.base κ s ≡ b → Q.base κ s ≡ b
base-at J P Q κ s b g e = ap (λ (f : Kind → ℕ → ℕ). f κ s) g.bases ∙ e

pub write-ok : (J : Job) (κ : Kind) (s a b : ℕ) (P Q : St) (e : Act) → rep J κ s ≡ s → row J κ s a ≡ e → P.base κ s ≡ b → 1 ≤ b → Sound J P
    → write (ent κ s a) (b + 2 * a) e P ≡ some Q → Wrote J P Q κ s a
write-ok J κ s a b P Q blank re w eb l S h =
    subst (λ (R : St). Wrote J P R κ s a) out
    (record { good = good-refl J P S; stored = record { owns = λ n. absurd (n w); goes = λ t k. absurd (not-shift t (sym k ∙ w)) } })
  where
    out : P ≡ Q
    out = cc

    not-shift : (t : ℕ) → shift t ≡ blank → ⊥
    not-shift t k = let z : ◌≡◌ {A = ℕ} 0 1 = cc in omega arith
write-ok J κ s a b P Q (rule r) re w eb l S h =
    let p = plain_ok J (ent κ s a) (b + 2 * a) P Q (ent-fit J κ s a b P eb l (λ z. no-blank (sym w ∙ z))) refl (λ u k. absurd (not-shift u (sym k ∙ w))) S h in
    record {
      good = p.0;
      stored = record { owns = λ n. rw (base-at J P Q κ s b p.0 eb, re) p.1; goes = λ t k. absurd (not-shift t (sym k ∙ w)) };
    }
  where
    no-blank : rule r ≡ blank → ⊥
    no-blank k = let z : ◌≡◌ {A = ℕ} 0 1 = cc in omega arith

    not-shift : (t : ℕ) → shift t ≡ rule r → ⊥
    not-shift t k = let z : ◌≡◌ {A = ℕ} 0 1 = cc in omega arith
write-ok J κ s a b P Q (shift t) re w eb l S h = go (P.place t) refl h
  where
    no-blank : shift t ≡ blank → ⊥
    no-blank k = let z : ◌≡◌ {A = ℕ} 0 1 = cc in omega arith

    fit : Fit J P (b + 2 * a) (ent κ s a)
    fit = ent-fit J κ s a b P eb l (λ z. no-blank (sym w ∙ z))

    is : (u : ℕ) → row J κ s a ≡ shift u → t ≡ u
    is u k = cc

    end : (x : ℕ) → Good J P Q → Q.owner (b + 2 * a) ≡ ent κ s a → Q.place t ≡ some x → Wrote J P Q κ s a
    end x g o p =
        record { good = g; stored = record { owns = λ n. rw (base-at J P Q κ s b g eb, re) o; goes = λ u k. rw (← is u k) (x, p) } }

    go : (o : Option ℕ) → P.place t ≡ o → toward (ent κ s a) t (b + 2 * a) o P ≡ some Q → Wrote J P Q κ s a
    go none e k = let p = settle-ok J (ent κ s a) t (b + 2 * a) P Q fit w e S k in end (b + 2 * a) p.0 p.1 p.2
    go (some x) e k = let p = plain_ok J (ent κ s a) (b + 2 * a) P Q fit refl (λ u i. rw (← is u i) (x, e)) S k in end x p.0 p.1 (p.0.grow.places t x e)

pub bind-some : (o : Option St) (f : St → Option St) (Q : St) → bind o f ≡ some Q → (R : St) × (o ≡ some R) × (f R ≡ some Q)
bind-some none f Q e = (Q, e, cc)
bind-some (some R) f Q e = (R, refl, e)

pub fill-ok : (J : Job) (κ : Kind) (s b n : ℕ) (P Q : St) → rep J κ s ≡ s → P.base κ s ≡ b → 1 ≤ b → Sound J P → fill J κ s b n P ≡ some Q
    → Good J P Q × ((d : ℕ) → d < n → Stored J Q κ s d)
fill-ok J κ s b zero P Q re eb l S h = let out : P ≡ Q = cc in (subst (λ (R : St). Good J P R) out (good-refl J P S), λ d x. absurd (omega arith))
fill-ok J κ s b (suc n) P Q re eb l S h =
    let r = bind-some (fill J κ s b n P) (write (ent κ s n) (b + 2 * n) (row J κ s n)) Q h in
    let i = fill-ok J κ s b n P r.0 re eb l S r.1 in
    let e₁ = base-at J P r.0 κ s b i.0 eb in
    let w = write-ok J κ s n b r.0 Q (row J κ s n) re refl e₁ l i.0.sound r.2 in (
      good-trans J P r.0 Q i.0 w.good,
      below_suc (λ (d : ℕ). Stored J Q κ s d) n (λ d x. stored-grow J r.0 Q κ s d w.good.grow (rw e₁ l) (i.1 d x)) w.stored,
    )

pub record FirstAt (f : ℕ → Option St) (b : ℕ) (Q : St) : Type 0 where
  pub at : ℕ
  pub from : b ≤ at
  pub found : f at ≡ some Q
  pub least : (c : ℕ) → b ≤ c → c < at → f c ≡ none

pub first-ok : (f : ℕ → Option St) (n b : ℕ) (o : Option St) (Q : St) → f b ≡ o → first f n b o ≡ some Q → FirstAt f b Q
first-ok f zero b (some P) Q e h = record { at = b; from = omega arith; found = e ∙ h; least = λ c x y. absurd (omega arith) }
first-ok f zero b none Q e h = record { at = b; from = omega arith; found = e ∙ h; least = λ c x y. absurd (omega arith) }
first-ok f (suc n) b (some P) Q e h = record { at = b; from = omega arith; found = e ∙ h; least = λ c x y. absurd (omega arith) }
first-ok f (suc n) b none Q e h =
    let i = first-ok f n (suc b) (f (suc b)) Q refl h in
    record { at = i.at; from = let l = i.from in omega arith; found = i.found; least = λ c x y. go i c x y (dec_le (suc b) c) }
  where
    go : (i : FirstAt f (suc b) Q) (c : ℕ) → b ≤ c → c < i.at → Dec (suc b ≤ c) → f c ≡ none
    go i c x y (yes z) = i.least c z y
    go i c x y (no z) = let q : c ≡ b = omega arith in rw q e

pub used-ok : (P : St) (κ : Kind) (b n : ℕ) → used P κ b n ≡ false → (r : ℕ) → r < n → P.base κ r ≡ b → ⊥
used-ok P κ b zero h r l e = omega arith
used-ok P κ b (suc n) h r l e = go (used-ok P κ b n) (eqb (P.base κ n) b) refl h (dec_lt r n)
  where
    go : (used P κ b n ≡ false → (r : ℕ) → r < n → P.base κ r ≡ b → ⊥) → (t : Bool) → eqb (P.base κ n) b ≡ t → (t || used P κ b n) ≡ false → Dec (r < n) → ⊥
    go ih true i k d = let z : ◌≡◌ {A = ℕ} 0 1 = cc in omega arith
    go ih false i k (yes z) = ih k r z e
    go ih false i k (no z) = let q : r ≡ n = omega arith in eqb-false (P.base κ n) b i (rw q at e)
