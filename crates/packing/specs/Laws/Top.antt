-- What a step may take: nothing above the top is taken, and a row at the top fits. Assumes nothing.
use Rattle.std.specs.Prelude.{◌≡◌, refl, ℕ, zero, suc, ◌+◌, ◌*◌, ◌≤◌, ◌<◌, max, true, ◌&&◌}
use Rattle.std.proofs.Common.{sym, ap, ◌∙◌, subst, arith}
use Rattle.std.proofs.Math.Option.{Option, none, some}
use Rattle.std.proofs.Math.Decide.{dec_le, dec_lt}
use Rattle.cells.specs.Read.{Kind}
use Rattle.packing.specs.Job.{Act, blank, shift, rule, Job}
use Rattle.packing.specs.Rows.{row}
use Rattle.packing.specs.Board.{Owner, att, ent, St, is_free, upd, put, house, bind, plain, settle, first, toward, write, fill}
use Rattle.packing.specs.Laws.Grow.{Upd, here, there, upd-at}
use Rattle.packing.specs.Laws.Tied.{through}
use Rattle.packing.specs.Laws.Fill.{bind-some, FirstAt}

-- ---- steps that succeed

-- the step succeeds, and X holds of the board that it leaves
pub record Ends (o : Option St) (X : St → Type 0) : Type 0 where
  pub board : St
  pub is : o ≡ some board
  pub holds : X board

pub ends-bind : {o : Option St} (f : St → Option St) {X Y : St → Type 0} → Ends o X → ((R : St) → X R → Ends (f R) Y) → Ends (bind o f) Y
ends-bind f r g =
    let q = g r.board r.holds in
    record { board = q.board; is = ap (λ (z : Option St). bind z f) r.is ∙ q.is; holds = q.holds }

-- ---- nothing above the top

abbrev pub Clear : St → Type 0
Clear P = (c : ℕ) → P.top ≤ c → is_free (P.owner c) ≡ true

-- what a step may have done: the top is at most m, if it was
pub record Bd (P Q : St) (m : ℕ) : Type 0 where
  pub clear : Clear P → Clear Q
  pub top : Q.top ≤ max P.top m
  pub base : Q.base ≡ P.base

put-bd : (P : St) (c : ℕ) (o : Owner) → Bd P (put c o P) (suc c)
unfolding put
put-bd P c o = record { clear = λ h d l. go h d l (upd-at P.owner c o d); top = omega arith; base = refl }
  where
    go : Clear P → (d : ℕ) → max P.top (suc c) ≤ d → Upd P.owner c o d → is_free (upd P.owner c o d) ≡ true
    go h d l (here i u) = absurd (omega arith)
    go h d l (there i u) = rw u (h d (omega arith))

house-bd : (P : St) (t c m : ℕ) → Bd P (house t c P) m
unfolding house
house-bd P t c m = record { clear = λ h. h; top = omega arith; base = refl }

bd-trans : (P Q R : St) (m n : ℕ) → m ≤ n → Bd P Q m → Bd Q R n → Bd P R n
bd-trans P Q R m n l f g =
    record { clear = λ h. g.clear (f.clear h); top = let x = f.top in let y = g.top in omega arith; base = g.base ∙ f.base }

bd-refl : (P : St) (m : ℕ) → Bd P P m
bd-refl P m = record { clear = λ h. h; top = omega arith; base = refl }

plain-bd : (o : Owner) (c : ℕ) (P Q : St) → plain o c P ≡ some Q → Bd P Q (c + 2)
unfolding plain
plain-bd o c P Q e =
    let g = through (is_free (P.owner c)) (put c o P) Q e in
    subst (λ (R : St). Bd P R (c + 2)) g.out (bd-trans P (put c o P) (put c o P) (suc c) (c + 2) (omega arith) (put-bd P c o) (bd-refl (put c o P) (c + 2)))

pub settle-bd : (o : Owner) (t c : ℕ) (P Q : St) → settle o t c P ≡ some Q → Bd P Q (c + 2)
unfolding settle
settle-bd o t c P Q e =
    let P₁ = put c o P in
    let P₂ = put (suc c) (att t) P₁ in
    let g = through (is_free (P.owner c) && is_free (P.owner (suc c))) (house t c P₂) Q e in
    subst (λ (R : St). Bd P R (c + 2)) g.out
    (bd-trans P P₂ (house t c P₂) (suc (suc c)) (c + 2) (omega arith) (bd-trans P P₁ P₂ (suc c) (suc (suc c)) (omega arith) (put-bd P c o) (put-bd P₁ (suc c) (att t))) (house-bd P₂ t c (c + 2)))

toward-bd : (o : Owner) (t c : ℕ) (x : Option ℕ) (P Q : St) → toward o t c x P ≡ some Q → Bd P Q (c + 2)
toward-bd o t c none P Q e = settle-bd o t c P Q e
toward-bd o t c (some x) P Q e = plain-bd o c P Q e

write-bd : (o : Owner) (c : ℕ) (e : Act) (P Q : St) → write o c e P ≡ some Q → Bd P Q (c + 2)
write-bd o c blank P Q h = let out : P ≡ Q = cc in subst (λ (R : St). Bd P R (c + 2)) out (bd-refl P (c + 2))
write-bd o c (rule r) P Q h = plain-bd o c P Q h
write-bd o c (shift t) P Q h = toward-bd o t c (P.place t) P Q h

pub fill-bd : (J : Job) (κ : Kind) (s b n : ℕ) (P Q : St) → fill J κ s b n P ≡ some Q → Bd P Q (b + 2 * n)
fill-bd J κ s b zero P Q h = let out : P ≡ Q = cc in subst (λ (R : St). Bd P R (b + 2 * 0)) out (bd-refl P (b + 2 * 0))
fill-bd J κ s b (suc n) P Q h =
    let r = bind-some (fill J κ s b n P) (write (ent κ s n) (b + 2 * n) (row J κ s n)) Q h in
    let w = write-bd (ent κ s n) (b + 2 * n) (row J κ s n) r.0 Q r.2 in
    let q : b + 2 * n + 2 ≡ b + 2 * suc n = omega arith in
    bd-trans P r.0 Q (b + 2 * n) (b + 2 * suc n) (omega arith) (fill-bd J κ s b n P r.0 r.1) (rw q at w)

-- ---- success above the top

plain-some : (o : Owner) (c : ℕ) (P : St) → Clear P → P.top ≤ c → (Q : St) × (plain o c P ≡ some Q)
unfolding plain
plain-some o c P h l = (put c o P, rw (h c l) refl)

pub settle-some : (o : Owner) (t c : ℕ) (P : St) → Clear P → P.top ≤ c → (Q : St) × (settle o t c P ≡ some Q)
unfolding settle
settle-some o t c P h l = (house t c (put (suc c) (att t) (put c o P)), rw (h c l, h (suc c) (omega arith)) refl)

toward-some : (o : Owner) (t c : ℕ) (x : Option ℕ) (P : St) → Clear P → P.top ≤ c → (Q : St) × (toward o t c x P ≡ some Q)
toward-some o t c none P h l = settle-some o t c P h l
toward-some o t c (some x) P h l = plain-some o c P h l

write-some : (o : Owner) (c : ℕ) (e : Act) (P : St) → Clear P → P.top ≤ c → (Q : St) × (write o c e P ≡ some Q)
write-some o c blank P h l = (P, refl)
write-some o c (rule r) P h l = plain-some o c P h l
write-some o c (shift t) P h l = toward-some o t c (P.place t) P h l

pub fill-some : (J : Job) (κ : Kind) (s b n : ℕ) (P : St) → Clear P → P.top ≤ b → (Q : St) × (fill J κ s b n P ≡ some Q)
fill-some J κ s b zero P h l = (P, refl)
fill-some J κ s b (suc n) P h l =
    let i = fill-some J κ s b n P h l in
    let d = fill-bd J κ s b n P i.0 i.1 in
    let t = d.top in
    let w = write-some (ent κ s n) (b + 2 * n) (row J κ s n) i.0 (d.clear h) (omega arith) in
    (w.0, ap (λ (o : Option St). bind o (write (ent κ s n) (b + 2 * n) (row J κ s n))) i.1 ∙ w.1)

pub first_some : (f : ℕ → Option St) (n b : ℕ) (o : Option St) (k : ℕ) (R : St) → f b ≡ o → b ≤ k → k ≤ b + n → f k ≡ some R → (Q : St) × (first f n b o ≡ some Q)
first_some f zero b (some P) k R e x y h = (P, refl)
first_some f zero b none k R e x y h = let q : k ≡ b = omega arith in (R, sym e ∙ ap f (sym q) ∙ h)
first_some f (suc n) b (some P) k R e x y h = (P, refl)
first_some f (suc n) b none k R e x y h = go (dec_le (suc b) k) (λ z. first_some f n (suc b) (f (suc b)) k R refl z (omega arith) h)
  where
    go : Dec (suc b ≤ k) → (suc b ≤ k → (Q : St) × (first f n (suc b) (f (suc b)) ≡ some Q)) → (Q : St) × (first f n (suc b) (f (suc b)) ≡ some Q)
    go (yes z) ih = ih z
    go (no z) ih = let q : k ≡ b = omega arith in let w : none ≡ some R = sym e ∙ ap f (sym q) ∙ h in absurd (let v : ◌≡◌ {A = ℕ} 0 1 = cc in omega arith)

pub first-le : (f : ℕ → Option St) (b : ℕ) (Q R : St) (k : ℕ) (i : FirstAt f b Q) → b ≤ k → f k ≡ some R → i.at ≤ k
first-le f b Q R k i l h = go (dec_lt k i.at)
  where
    go : Dec (k < i.at) → i.at ≤ k
    go (yes z) = let w = i.least k l z in absurd (let v : ◌≡◌ {A = ℕ} 0 1 = cc in omega arith)
    go (no z) = omega arith
