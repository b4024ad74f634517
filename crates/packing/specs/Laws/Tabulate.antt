-- Lists made by counting up, and stores to them. Assumes nothing.
use Rattle.std.specs.Prelude.{◌≡◌, refl, ℕ, zero, suc, ◌+◌, ◌≤◌, ◌<◌, List, ◌∷◌, length, get_or, set, replicate}
use Rattle.std.proofs.Common.{sym, ap, ◌∙◌, arith}
use Rattle.packing.specs.Board.{upd}
use Rattle.packing.specs.Packed.{tabulate}
use Rattle.packing.specs.Laws.Grow.{upd_same, upd_other, Upd, here, there, upd-at}

-- ---- at an index

pub tab-at {ℓ} : {X : Type ℓ} (f : ℕ → X) (n i : ℕ) (d : X) (c : ℕ) → c < n → get_or (tabulate f n i) c d ≡ f (i + c)
tab-at f zero i d c l = absurd (omega arith)
tab-at f (suc n) i d zero l = ap f (omega arith)
tab-at f (suc n) i d (suc c) l = tab-at f n (suc i) d c (omega arith) ∙ ap f (omega arith)

pub tab₀ {ℓ} : {X : Type ℓ} (f : ℕ → X) (n : ℕ) (d : X) (c : ℕ) → c < n → get_or (tabulate f n 0) c d ≡ f c
tab₀ f n d c l = tab-at f n 0 d c l ∙ ap f (omega arith)

pub length-tab {ℓ} : {X : Type ℓ} (f : ℕ → X) (n i : ℕ) → length (tabulate f n i) ≡ n
length-tab f zero i = refl
length-tab f (suc n) i = ap suc (length-tab f n (suc i))

-- ---- after a store, or two

pub tab-same {ℓ} : {X : Type ℓ} (f g : ℕ → X) (n i : ℕ) → ((d : ℕ) → i ≤ d → g d ≡ f d) → tabulate g n i ≡ tabulate f n i
tab-same f g zero i h = refl
tab-same f g (suc n) i h = rw (h i (omega arith), tab-same f g n (suc i) (λ d l. h d (omega arith))) refl

pub tab-set {ℓ} : {X : Type ℓ} (f g : ℕ → X) (n i c : ℕ) → ((d : ℕ) → (d ≡ i + c → ⊥) → g d ≡ f d) → tabulate g n i ≡ set (tabulate f n i) c (g (i + c))
tab-set f g zero i c h = refl
tab-set f g (suc n) i zero h =
    let q : i + 0 ≡ i = omega arith in
    rw (q, tab-same f g n (suc i) (λ d l. h d (omega arith))) refl
tab-set f g (suc n) i (suc c) h =
    let q : suc i + c ≡ i + suc c = omega arith in
    rw (h i (omega arith), ← q) (ap (λ (l : List _). f i ∷ l) (tab-set f g n (suc i) c (λ d m. h d (λ z. m (z ∙ sym q)))))

pub tab-set₀ {ℓ} : {X : Type ℓ} (f g : ℕ → X) (n c : ℕ) (v : X) → g c ≡ v → ((d : ℕ) → (d ≡ c → ⊥) → g d ≡ f d) → tabulate g n 0 ≡ set (tabulate f n 0) c v
tab-set₀ f g n c v e h =
    let q : 0 + c ≡ c = omega arith in
    tab-set f g n 0 c (λ d m. h d (λ z. m (z ∙ sym q))) ∙ ap (set (tabulate f n 0) c) (ap g q ∙ e)

pub tab-const {ℓ} : {X : Type ℓ} (x : X) (n i : ℕ) → tabulate (λ c. x) n i ≡ replicate n x
tab-const x zero i = refl
tab-const x (suc n) i = ap (λ (l : List _). x ∷ l) (tab-const x n (suc i))

-- two stores, side by side
pub two {ℓ} : {X : Type ℓ} (W c : ℕ) (f g : ℕ → X) (v w : X) → g c ≡ v → g (suc c) ≡ w → ((d : ℕ) → (d ≡ c → ⊥) → (d ≡ suc c → ⊥) → g d ≡ f d)
    → tabulate g W 0 ≡ set (set (tabulate f W 0) c v) (suc c) w
two W c f g v w e k m =
    tab-set₀ (upd f c v) g W (suc c) w k (λ d n. mid d n (upd-at f c v d))
    ∙ ap (λ (l : List _). set l (suc c) w) (tab-set₀ f (upd f c v) W c v (upd_same f c v) (λ d n. upd_other f c v d n))
  where
    mid : (d : ℕ) → (d ≡ suc c → ⊥) → Upd f c v d → g d ≡ upd f c v d
    mid d n (here i u) = ap g i ∙ e ∙ sym u
    mid d n (there i u) = m d i n ∙ sym u
