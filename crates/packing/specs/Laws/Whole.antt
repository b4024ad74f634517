-- All states, all signed targets, and all of placement. Assumes nothing.
use Rattle.std.specs.Prelude.{◌≡◌, refl, List, ℕ, zero, suc, ◌+◌, ◌-◌, ◌≤◌, ◌<◌, length, replicate, ℤ, pos}
use Rattle.std.proofs.Common.{sym, ◌∙◌, arith, eq-or-lt_of_le}
use Rattle.std.proofs.Math.Logic.{⊎_elim}
use Rattle.std.proofs.Math.Option.{Option, none, some}
use Rattle.number.specs.Number.{number_of}
use Rattle.number.specs.declared.Signed.TheVariants.{Plus}
use Rattle.tables.specs.declared.Sizes.{Sizes}
use Rattle.cells.specs.Read.{twice}
use Rattle.packing.specs.Job.{Job, job_of}
use Rattle.packing.specs.Bench.{Bench, house_b, state_b, states_b, target_b, targets_b, blank_b, placement_b}
use Rattle.packing.specs.Bounds.{Low}
use Rattle.packing.specs.Written.{bench}
use Rattle.packing.specs.Turns.{wiped, Sized}
use Rattle.packing.specs.Laws.Store.{plus-fits}
use Rattle.packing.specs.Laws.Ready.{low-none}

-- ---- the states, one after the other

states-none : (J : Job) (W fuel m n : ℕ) (A : Bench) → states_b J W fuel m A ≡ none → m ≤ n → states_b J W fuel n A ≡ none
states-none J W fuel m zero A e h = let q : m ≡ 0 = omega arith in rw q at e
states-none J W fuel m (suc n) A e h =
    ⊎_elim
    (λ (q : m ≡ suc n). rw q at e)
    (λ (l : m < suc n). rw (states-none J W fuel m n A e (omega arith)) refl)
    (eq-or-lt_of_le h)

module _ (J : Job) (W fuel s : ℕ) (A B : Bench) (t : some B ≡ states_b J W fuel s A) where
  pub states_stop : (n : ℕ) → s < n → none ≡ state_b J W fuel s B → none ≡ states_b J W fuel n A
  states_stop n h u = sym (states-none J W fuel (suc s) n A (rw (← t) (sym u)) h)

-- ---- the signed targets, one after the other

targets-none : (J : Job) (W m n : ℕ) (A : Bench) → targets_b J W m A ≡ none → m ≤ n → targets_b J W n A ≡ none
targets-none J W m zero A e h = let q : m ≡ 0 = omega arith in rw q at e
targets-none J W m (suc n) A e h =
    ⊎_elim
    (λ (q : m ≡ suc n). rw q at e)
    (λ (l : m < suc n). rw (targets-none J W m n A e (omega arith)) refl)
    (eq-or-lt_of_le h)

pub target_is : (J : Job) (W x q t : ℕ) (A : Bench) → t ≡ q → (t ≡ 0 → ⊥) → (o : Option Bench) → o ≡ house_b J W t (J.off x) (pos x) A → o ≡ target_b J W x q A
target_is J W x q zero A e n o h = absurd (n refl)
target_is J W x q (suc t) A e n o h = rw (← e) h

module _ (J : Job) (W i : ℕ) (A B : Bench) (t : some B ≡ targets_b J W i A) where
  pub targets_stop : (n : ℕ) → i < n → none ≡ target_b J W (J.terms + i) (J.gsig (J.terms + i)) B → none ≡ targets_b J W n A
  targets_stop n h u = sym (targets-none J W (suc i) n A (rw (← t) (sym u)) h)

-- ---- all of it

pub wiped-is : (empty : ℕ) (base check base' check' : List ℤ) (marks place marks' place' : List ℕ) → empty ≤ 512
    → base' ≡ replicate (length base) (number_of (Plus 0)) → check' ≡ replicate (length check) (number_of (Plus empty))
    → marks' ≡ replicate (length marks) 0 → place' ≡ replicate (length place) 0
    → bench base' check' marks' place' ≡ wiped empty (bench base check marks place)
unfolding wiped
wiped-is empty base check base' check' marks place marks' place' h e₁ e₂ e₃ e₄ =
    rw (e₁, e₂, e₃, e₄, plus-fits 0 (omega arith), plus-fits empty (omega arith)) refl

-- wiped arrays of the right lengths are the blank ones
pub blank-is : (z : Sizes) (states : ℕ) (table : List ℤ) (srule sgoto : List ℕ) (A B : Bench) → Sized states A → B ≡ wiped z.symbols A
    → B ≡ blank_b (job_of twice z states table srule sgoto) (length A.bases)
unfolding blank_b job_of wiped
blank-is z states table srule sgoto A B sized e = e ∙ rw (sized.checks, sized.marks, sized.places) refl

pub blank_low : (J : Job) (W : ℕ) (A : Bench) → A ≡ blank_b J W → Low A.places
unfolding blank_b
blank_low J W A e = rw e (low-none J.states)

module _ (J : Job) (W fuel : ℕ) (A : Bench) (blank : A ≡ blank_b J W) where
  pub placed_none : none ≡ house_b J W 0 0 (pos J.syms) A → none ≡ placement_b J W fuel
  unfolding placement_b
  placed_none e = sym (rw (← blank, ← e) refl)

  module _ (B : Bench) (h : some B ≡ house_b J W 0 0 (pos J.syms) A) where
    pub placed_stop : none ≡ targets_b J W (J.syms - J.terms) B → none ≡ placement_b J W fuel
    unfolding placement_b
    placed_stop e = sym (rw (← blank, ← h, ← e) refl)

    pub placed_is : (C : Bench) → some C ≡ targets_b J W (J.syms - J.terms) B → (o : Option Bench) → o ≡ states_b J W fuel J.states C → o ≡ placement_b J W fuel
    unfolding placement_b
    placed_is C t o e = e ∙ sym (rw (← blank, ← h, ← t) refl)
