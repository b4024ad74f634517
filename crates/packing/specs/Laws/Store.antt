-- The code's stores are those of the machine over the arrays. Assumes nothing.
use Rattle.std.specs.Prelude.{◌≡◌, refl, ℕ, zero, suc, ◌+◌, ◌≤◌, ◌<◌, List, set, ℤ, pos}
use Rattle.std.proofs.Common.{arith, add-one, le-leb, lt-ltb, le-ltb}
use Rattle.std.proofs.Math.Option.{some, none}
use Rattle.std.proofs.Math.Bool.{and-false}
use Rattle.number.specs.Number.{number_of}
use Rattle.number.specs.declared.Signed.{Signed}
use Rattle.number.specs.declared.Signed.TheVariants.{Plus, Minus}
use Rattle.packing.specs.Job.{Job, neg, sign_check}
use Rattle.packing.specs.Bench.{Bench, settle_b, house_b}
use Rattle.packing.specs.Written.{bench}

-- ---- numbers that fit

pub plus-fits : (n : ℕ) → n ≤ 2147483647 → number_of (Plus n) ≡ pos n
plus-fits n h = rw (le-leb n 2147483647 h) refl

pub minus-fits : (n : ℕ) → n ≤ 5000000 → number_of (Minus n) ≡ neg n
minus-fits zero h = refl
minus-fits (suc n) h = rw (le-leb (suc n) 2147483648 (omega arith)) refl

-- Check of an attached cell
pub attached_none : (J : Job) (q : ℕ) → q ≡ 0 → J.syms ≤ 512 → number_of (Plus J.syms) ≡ sign_check J q
attached_none J q e h = rw e (plus-fits J.syms (omega arith))

pub attached_rule : (J : Job) (q : ℕ) → (q ≡ 0 → ⊥) → q ≤ 1024 → number_of (Minus q) ≡ sign_check J q
attached_rule J zero n h = absurd (n refl)
attached_rule J (suc q) n h = minus-fits (suc q) (omega arith)

-- ---- a state's two cells

pub settle_is : (J : Job) (t c k : ℕ) (v : Signed) (base check check₁ check₂ : List ℤ) (marks marks₁ marks₂ place place₁ : List ℕ) → k ≤ 512
    → check₁ ≡ set check c (number_of (Plus k)) → number_of v ≡ sign_check J (J.ssig t) → check₂ ≡ set check₁ (c + 1) (number_of v)
    → marks₁ ≡ set marks c 1 → marks₂ ≡ set marks₁ (c + 1) 1 → place₁ ≡ set place t c
    → bench base check₂ marks₂ place₁ ≡ settle_b J t c (pos k) (bench base check marks place)
settle_is J t c k v base check check₁ check₂ marks marks₁ marks₂ place place₁ h e₁ ev e₂ e₃ e₄ e₅ =
    rw (e₂, e₁, e₄, e₃, e₅, ev, plus-fits k (omega arith), add-one c) refl

pub house_yes : (J : Job) (W t c : ℕ) (k : ℤ) (A B : Bench) → B ≡ settle_b J t c k A → c + 1 < W → some B ≡ house_b J W t c k A
unfolding house_b
house_yes J W t c k A B e h = let l : suc c < W = omega arith in rw (lt-ltb c W (omega arith), lt-ltb (suc c) W l, e) refl

pub house_no : (J : Job) (W t c : ℕ) (k : ℤ) (A : Bench) → W ≤ c + 1 → none ≡ house_b J W t c k A
unfolding house_b
house_no J W t c k A h = let l : W ≤ suc c = omega arith in rw (le-ltb (suc c) W l, and-false _) refl
