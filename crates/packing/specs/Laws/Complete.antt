-- A placement that succeeds is sound and complete. Assumes nothing.
use Rattle.std.specs.Prelude.{◌≡◌, refl, ℕ, zero, suc, ◌+◌, ◌-◌, ◌≤◌, ◌<◌}
use Rattle.std.proofs.Common.{ap, sym, ◌∙◌, subst, arith}
use Rattle.std.proofs.Math.Option.{Option, none, some}
use Rattle.cells.specs.Read.{Kind, action, goto}
use Rattle.packing.specs.Job.{Job}
use Rattle.packing.specs.Rows.{search, skip, plan}
use Rattle.packing.specs.Board.{own, dflt, St, empty, bind, settle, target_to, target, targets_upto, home_step, row_step, state_step, states_upto, placement}
use Rattle.packing.specs.Laws.Rows.{below_suc}
use Rattle.packing.specs.Laws.Grow.{Grow, grow-refl, grow-trans}
use Rattle.packing.specs.Laws.Sound.{Sound}
use Rattle.packing.specs.Laws.Tied.{Tied, Good, good-trans, settle-ok, good-refl}
use Rattle.packing.specs.Laws.Fill.{bind-some}
use Rattle.packing.specs.Laws.Steps.{RowIn, rowin-grow, Late, row_ok, home-ok}

-- the states below n are done
pub record Upto (J : Job) (P : St) (n : ℕ) : Type 0 where
  pub sound : Sound J P
  pub tied : Tied J P
  pub late : (κ : Kind) → Late P κ n
  pub homes : (s : ℕ) → s < n → (x : ℕ) × (P.place s ≡ some x)
  pub rows : (κ : Kind) (s : ℕ) → s < n → (plan J κ s ≡ skip → ⊥) → RowIn J P κ s

pub state-ok : (J : Job) (fuel s : ℕ) (P Q : St) → s < J.states → Upto J P s → state_step J fuel s P ≡ some Q → Grow P Q × Upto J Q (suc s)
unfolding state_step
state-ok J fuel s P Q sl U h =
    let r₁ = bind-some (home_step fuel s P) (λ R. bind (row_step J fuel action s R) (row_step J fuel goto s)) Q h in
    let r₂ = bind-some (row_step J fuel action s r₁.0) (row_step J fuel goto s) Q r₁.2 in
    let g₁ = home-ok J fuel s P r₁.0 U.sound r₁.1 in
    let late₁ : (κ : Kind) → Late r₁.0 κ s = λ κ r x. ap (λ (g : Kind → ℕ → ℕ). g κ r) g₁.0.bases ∙ U.late κ r x in
    let early : (κ : Kind) (r : ℕ) → r < s → plan J κ r ≡ search → RowIn J r₁.0 κ r = λ κ r x p. rowin-grow J P r₁.0 κ r g₁.0.grow (U.rows κ r x (λ z. not-skip (sym p ∙ z))) in
    let d₂ = row_ok J fuel action s r₁.0 r₂.0 sl g₁.0.sound (late₁ action) (early action) r₂.1 in
    let d₃ = row_ok J fuel goto s r₂.0 Q sl d₂.sound (d₂.other goto s not-action (late₁ goto)) (λ r x p. rowin-grow J r₁.0 r₂.0 goto r d₂.grow (early goto r x p)) r₂.2 in
    let g₃ = grow-trans d₂.grow d₃.grow in
    let g = grow-trans g₁.0.grow g₃ in (
      g,
      record {
        sound = d₃.sound;
        tied = d₃.ties (d₂.ties (g₁.0.ties U.tied));
        late = elim [ action ↦ d₃.other action (suc s) (λ e. not-action (sym e)) d₂.late | goto ↦ d₃.late ];
        homes = below_suc (λ (r : ℕ). (x : ℕ) × (Q.place r ≡ some x)) s (λ r l. let p = U.homes r l in (p.0, g.places r p.0 p.1)) (g₁.1.0, g₃.places s g₁.1.0 g₁.1.1);
        rows = elim [
          | action ↦ below_suc (λ (r : ℕ). (plan J action r ≡ skip → ⊥) → RowIn J Q action r) s (λ r l pl. rowin-grow J P Q action r g (U.rows action r l pl)) (λ pl. rowin-grow J r₂.0 Q action s d₃.grow (d₂.done pl))
          | goto ↦ below_suc (λ (r : ℕ). (plan J goto r ≡ skip → ⊥) → RowIn J Q goto r) s (λ r l pl. rowin-grow J P Q goto r g (U.rows goto r l pl)) d₃.done
        ];
      },
    )
  where
    not-skip : search ≡ skip → ⊥
    not-skip e = let z : ◌≡◌ {A = ℕ} 0 1 = cc in omega arith

    not-action : goto ≡ action → ⊥
    not-action e = let z : ◌≡◌ {A = ℕ} 0 1 = cc in omega arith

pub states-ok : (J : Job) (fuel n : ℕ) (P Q : St) → n ≤ J.states → Upto J P 0 → states_upto J fuel n P ≡ some Q → Grow P Q × Upto J Q n
states-ok J fuel zero P Q l U h = let out : P ≡ Q = cc in subst (λ (R : St). Grow P R × Upto J R 0) out (grow-refl P, U)
states-ok J fuel (suc n) P Q l U h =
    let r = bind-some (states_upto J fuel n P) (state_step J fuel n) Q h in
    let a = states-ok J fuel n P r.0 (omega arith) U r.1 in
    let b = state-ok J fuel n r.0 Q l a.1 r.2 in
    (grow-trans a.0 b.0, b.1)

-- ---- the signed targets

abbrev pub TargetIn : Job → St → ℕ → Type 0
TargetIn J P A = 1 ≤ J.gsig A → (P.owner (J.off A) ≡ dflt A) × (P.place (J.gsig A) ≡ some (J.off A))

targetin-grow : (J : Job) (P Q : St) (A : ℕ) → Grow P Q → TargetIn J P A → TargetIn J Q A
targetin-grow J P Q A g h l = let p = h l in (g.owners (J.off A) (dflt A) refl p.0, g.places (J.gsig A) (J.off A) p.1)

pub target_ok : (J : Job) (A : ℕ) (P Q : St) (t : ℕ) → J.gsig A ≡ t → Sound J P → target J A t P ≡ some Q → Good J P Q × TargetIn J Q A
target_ok J A P Q zero e S h =
    let out : P ≡ Q = cc in subst (λ (R : St). Good J P R × TargetIn J R A) out (good-refl J P S, λ l. absurd (omega arith))
target_ok J A P Q (suc t) e S h = go (P.place (suc t)) refl h
  where
    go : (o : Option ℕ) → P.place (suc t) ≡ o → target_to J A (suc t) o P ≡ some Q → Good J P Q × TargetIn J Q A
    go none i k = let p = settle-ok J (dflt A) (suc t) (J.off A) P Q (refl, omega arith) e i S k in (p.0, λ l. (p.1, rw e p.2))
    go (some x) i k = absurd (let z : ◌≡◌ {A = ℕ} 0 1 = cc in omega arith)

pub targets-ok : (J : Job) (n : ℕ) (P Q : St) → Sound J P → targets_upto J n P ≡ some Q → Good J P Q × ((m : ℕ) → m < n → TargetIn J Q (J.terms + m))
targets-ok J zero P Q S h = let out : P ≡ Q = cc in (subst (λ (R : St). Good J P R) out (good-refl J P S), λ m x. absurd (omega arith))
targets-ok J (suc n) P Q S h =
    let r = bind-some (targets_upto J n P) (target J (J.terms + n) (J.gsig (J.terms + n))) Q h in
    let i = targets-ok J n P r.0 S r.1 in
    let t = target_ok J (J.terms + n) r.0 Q (J.gsig (J.terms + n)) refl i.0.sound r.2 in (
      good-trans J P r.0 Q i.0 t.0,
      below_suc (λ (m : ℕ). TargetIn J Q (J.terms + m)) n (λ m x. targetin-grow J r.0 Q (J.terms + m) t.0.grow (i.1 m x)) t.1,
    )

-- ---- all of placement

-- every state has its cells, every row stands, every signed target is at its cell
pub record Complete (J : Job) (P : St) : Type 0 where
  pub sound : Sound J P
  pub tied : Tied J P
  pub origin : P.owner 0 ≡ own 0
  pub homes : (s : ℕ) → s < J.states → (x : ℕ) × (P.place s ≡ some x)
  pub rows : (κ : Kind) (s : ℕ) → s < J.states → (plan J κ s ≡ skip → ⊥) → RowIn J P κ s
  pub late : (κ : Kind) → Late P κ J.states
  pub targets : (A : ℕ) → J.terms ≤ A → A < J.syms → TargetIn J P A

pub sound_empty : (J : Job) → Sound J empty
unfolding empty
sound_empty J =
    record {
      fit = λ c. tt;
      home = λ s x e. absurd (let z : ◌≡◌ {A = ℕ} 0 1 = cc in omega arith);
      attached = λ s x e. absurd (let z : ◌≡◌ {A = ℕ} 0 1 = cc in omega arith);
      below = λ c e. absurd (let z : ◌≡◌ {A = ℕ} 0 1 = cc in omega arith);
      tight = λ c e. absurd (omega arith);
      inj = λ κ s r l e. absurd (omega arith);
    }

pub placement-ok : (J : Job) (fuel : ℕ) (Q : St) → placement J fuel ≡ some Q → Complete J Q
unfolding placement
placement-ok J fuel Q h =
    let r₁ = bind-some (settle (own 0) 0 0 empty) (λ P. bind (targets_upto J (J.syms - J.terms) P) (states_upto J fuel J.states)) Q h in
    let r₂ = bind-some (targets_upto J (J.syms - J.terms) r₁.0) (states_upto J fuel J.states) Q r₁.2 in
    let g₁ = settle-ok J (own 0) 0 0 empty r₁.0 tt refl (unfold empty in refl) (sound_empty J) r₁.1 in
    let g₂ = targets-ok J (J.syms - J.terms) r₁.0 r₂.0 g₁.0.sound r₂.1 in
    let U : Upto J r₂.0 0 =
    record {
      sound = g₂.0.sound;
      tied = g₂.0.ties (g₁.0.ties (λ c. unfold empty in tt));
      late = λ κ r x. ap (λ (f : Kind → ℕ → ℕ). f κ r) (g₂.0.bases ∙ g₁.0.bases) ∙ (unfold empty in refl);
      homes = λ s x. absurd (omega arith);
      rows = λ κ s x p. absurd (omega arith);
    }
    in
    let g₃ = states-ok J fuel J.states r₂.0 Q (omega arith) U r₂.2 in
    record {
      sound = g₃.1.sound;
      tied = g₃.1.tied;
      origin = g₃.0.owners 0 (own 0) refl (g₂.0.grow.owners 0 (own 0) refl g₁.1);
      homes = g₃.1.homes;
      rows = g₃.1.rows;
      late = g₃.1.late;
      targets = λ A x y. let q : J.terms + (A - J.terms) ≡ A = omega arith in rw q at (targetin-grow J r₂.0 Q (J.terms + (A - J.terms)) g₃.0 (g₂.1 (A - J.terms) (omega arith)));
    }
