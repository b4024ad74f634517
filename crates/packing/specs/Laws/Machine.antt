-- Placement on the bench is placement on the board, or NOROOM. Assumes nothing.
use Rattle.std.specs.Prelude.{◌≡◌, ℕ, zero, suc, ◌+◌, ◌-◌, ◌≤◌, ◌<◌, Bool, true, not, cond, ◌&&◌, leb, eqb, ℤ, pos, refl, false}
use Rattle.std.proofs.Common.{sym, ap, ap₂, ◌∙◌, subst, arith, ne_eqb, le-leb, leb-true, leb-false}
use Rattle.std.proofs.Math.Option.{Option, none, some}
use Rattle.std.proofs.Math.Decide.{dec_lt}
use Rattle.std.proofs.lemmas.Bool.{lt-leb}
use Rattle.cells.specs.Read.{Kind, action, goto}
use Rattle.packing.specs.Job.{Job}
use Rattle.packing.specs.Rows.{search, skip, plan}
use Rattle.packing.specs.Board.{Owner, own, att, dflt, St, empty, put, house, bind, settle, target_to, target, targets_upto, home_if, home_step, row_step, state_step, states_upto, placement}
use Rattle.packing.specs.Bench.{Bench, settle_b, inside, no_cell_b, first_b, row_b, bind_b, house_b, free2_b, home_b, state_b, states_b, target_b, targets_b, blank_b, placement_b}
use Rattle.packing.specs.Packed.{check_of, base_at, check_at, arrays, fits, bound, pack, bench_of}
use Rattle.packing.specs.Laws.Rows.{below_suc}
use Rattle.packing.specs.Laws.WellFormed.{RowOk, WF}
use Rattle.packing.specs.Laws.Grow.{Grow, grow-trans}
use Rattle.packing.specs.Laws.Sound.{IsHome}
use Rattle.packing.specs.Laws.Tied.{Tied, Good, settle-ok}
use Rattle.packing.specs.Laws.Fill.{bind-some}
use Rattle.packing.specs.Laws.Steps.{RowIn, rowin-grow, Late, RowDone, row_ok, home-ok}
use Rattle.packing.specs.Laws.Complete.{Upto, state-ok, states-ok, TargetIn, target_ok, targets-ok, sound_empty}
use Rattle.packing.specs.Laws.Tabulate.{tab-const}
use Rattle.packing.specs.Laws.Top.{Ends}
use Rattle.packing.specs.Laws.Total.{Within, placement-total}
use Rattle.packing.specs.Laws.Needs.{free_in, done, done-guard}
use Rattle.packing.specs.Laws.Bench.{render, Live, live-good, free_b-is, no_cell_b-is, Homes}
use Rattle.packing.specs.Laws.Filling.{settle-square}
use Rattle.packing.specs.Laws.Room.{settle-room}
use Rattle.packing.specs.Laws.Row.{first-same, Answer, row-square}

-- one step after another: where the first has no room, nor has the whole
bind-answer : (J : Job) (W : ℕ) (R Q : St) (o : Option Bench) (f : Bench → Option Bench) → R.top ≤ Q.top → o ≡ Answer J W R
    → (R.top ≤ W → f (render J W R) ≡ Answer J W Q) → bind_b o f ≡ Answer J W Q
bind-answer J W R Q o f l e h = ap (λ (z : Option Bench). bind_b z f) e ∙ go (leb R.top W) refl
  where
    go : (t : Bool) → leb R.top W ≡ t → bind_b (cond t (some (render J W R)) none) f ≡ Answer J W Q
    go true i = h (leb-true R.top W i)
    go false i = let z = leb-false R.top W i in ap (λ (t : Bool). cond t (some (render J W Q)) none) (sym (lt-leb Q.top W (omega arith)))

same_answer : (J : Job) (W : ℕ) (P : St) → P.top ≤ W → some (render J W P) ≡ Answer J W P
same_answer J W P l = ap (λ (t : Bool). cond t (some (render J W P)) none) (sym (le-leb P.top W l))

house-square : (J : Job) (W : ℕ) (o : Owner) (t c : ℕ) (k : ℤ) (P Q : St) → check_of J o ≡ k → Tied J P → ((κ : Kind) → P.base κ t ≡ 0) → P.top ≤ W → IsHome J o t
    → t < J.states → P.place t ≡ none → settle o t c P ≡ some Q
    → house_b J W t c k (render J W P) ≡ Answer J W Q
unfolding house_b
house-square J W o t c k P Q ek ti ub room h lt n e =
    ap₂ (λ (z : Bool) (A : Bench). cond z (some A) none)
    (sym (settle-room W o t c P Q e ∙ ap (λ (z : Bool). z && (inside W c && inside W (suc c))) (le-leb P.top W room)))
    (sym (settle-square J W o t c P Q ti ub h lt n e ∙ ap (λ (z : ℤ). settle_b J t c z (render J W P)) ek))

done-settle : (o : Owner) (t c : ℕ) (P : St) → (free_in P c && free_in P (suc c)) ≡ done (settle o t c P)
unfolding settle
done-settle o t c P = sym (done-guard (free_in P c && free_in P (suc c)) (house t c (put (suc c) (att t) (put c o P))))

home-square : (J : Job) (W fuel s : ℕ) (P Q : St) → Live J P → P.top ≤ W → s < J.states → ((x : ℕ) × (P.place 0 ≡ some x)) → home_step fuel s P ≡ some Q
    → home_b J W fuel s (render J W P) ≡ Answer J W Q
unfolding home_step home_b
home-square J W fuel s P Q l room ls z h = go s ls (P.place s) refl h
  where
    A : Bench
    A = render J W P

    least : ℕ
    least = first_b (free2_b A) fuel 1 (free2_b A 1)

    same : P ≡ Q → some A ≡ Answer J W Q
    same q = subst (λ (R : St). some A ≡ Answer J W R) q (same_answer J W P room)

    go : (s : ℕ) → s < J.states → (o : Option ℕ) → P.place s ≡ o → home_if o fuel s P ≡ some Q
        → cond (not (eqb s 0) && no_cell_b A s) (house_b J W s least (pos J.syms) A) (some A) ≡ Answer J W Q
    go zero m (some x) e k = same cc
    go zero m none e k = let y : none ≡ some z.0 = sym e ∙ z.1 in absurd (let w : ◌≡◌ {A = ℕ} 0 1 = cc in omega arith)
    go (suc s) m (some x) e k = rw (ne_eqb (suc s) 0 (omega arith), no_cell_b-is J W P (suc s) l (omega arith) m, e) (same cc)
    go (suc s) m none e k =
        rw (ne_eqb (suc s) 0 (omega arith), no_cell_b-is J W P (suc s) l (omega arith) m, e)
        (house-square J W (own (suc s)) (suc s) least (pos J.syms) P Q refl l.tied (l.unbased (suc s) e) room refl m e
        (first-same (λ x. settle (own (suc s)) (suc s) x P) (free2_b A) fuel 1 Q
        (λ c y. ap₂ ◌&&◌ (free_b-is J W P c l room) (free_b-is J W P (suc c) l room) ∙ done-settle (own (suc s)) (suc s) c P) k))

live-upto : (J : Job) (P : St) (n : ℕ) → Upto J P n → P.owner 0 ≡ own 0 → Live J P
live-upto J P n U o = record { sound = U.sound; tied = U.tied; origin = o; unbased = λ t e κ. at t e κ (dec_lt t n) }
  where
    at : (t : ℕ) → P.place t ≡ none → (κ : Kind) → Dec (t < n) → P.base κ t ≡ 0
    at t e κ (yes l) = let p = U.homes t l in let y : none ≡ some p.0 = sym e ∙ p.1 in absurd (let w : ◌≡◌ {A = ℕ} 0 1 = cc in omega arith)
    at t e κ (no l) = U.late κ t (omega arith)

not-action : goto ≡ action → ⊥
not-action e = let z : ◌≡◌ {A = ℕ} 0 1 = cc in omega arith

state-square : (J : Job) (W fuel s : ℕ) (P Q : St) → s < J.states → Upto J P s → P.owner 0 ≡ own 0 → ((x : ℕ) × (P.place 0 ≡ some x)) → ((κ : Kind) → RowOk J κ s) → P.top ≤ W
    → state_step J fuel s P ≡ some Q → state_b J W fuel s (render J W P) ≡ Answer J W Q
unfolding state_step state_b
state-square J W fuel s P Q sl U o z ok room h =
    let r₁ = bind-some (home_step fuel s P) (λ R. bind (row_step J fuel action s R) (row_step J fuel goto s)) Q h in
    let r₂ = bind-some (row_step J fuel action s r₁.0) (row_step J fuel goto s) Q r₁.2 in
    let g₁ = home-ok J fuel s P r₁.0 U.sound r₁.1 in
    go r₁.0 r₂.0 r₁.1 r₂.1 r₂.2 g₁.0 g₁.1
  where
    l₀ : Live J P
    l₀ = live-upto J P s U o

    not-skip : search ≡ skip → ⊥
    not-skip e = let w : ◌≡◌ {A = ℕ} 0 1 = cc in omega arith

    go : (R S : St) → home_step fuel s P ≡ some R → row_step J fuel action s R ≡ some S → row_step J fuel goto s S ≡ some Q → Good J P R → ((x : ℕ) × (R.place s ≡ some x))
        → bind_b (home_b J W fuel s (render J W P)) (λ B. bind_b (row_b J W fuel action s B) (row_b J W fuel goto s)) ≡ Answer J W Q
    go R S e₁ e₂ e₃ g p =
        bind-answer J W R Q (home_b J W fuel s (render J W P)) (λ B. bind_b (row_b J W fuel action s B) (row_b J W fuel goto s)) (grow-trans d₂.grow d₃.grow).tops
        (home-square J W fuel s P R l₀ room sl z e₁)
        (λ room₁.
        bind-answer J W S Q (row_b J W fuel action s (render J W R)) (row_b J W fuel goto s) d₃.grow.tops
        (row-square J W fuel action s p.0 R S l₁ room₁ sl p.1 homes₁ (late₁ action) (ok action) e₂)
        (λ room₂. row-square J W fuel goto s p.0 S Q l₂ room₂ sl (d₂.grow.places s p.0 p.1) homes₂ late₂ (ok goto) e₃))
      where
        l₁ : Live J R
        l₁ = live-good J P R g l₀

        homes₁ : Homes R s
        homes₁ r x = let q = U.homes r x in (q.0, g.grow.places r q.0 q.1)

        late₁ : (κ : Kind) → Late R κ s
        late₁ κ r x = ap (λ (f : Kind → ℕ → ℕ). f κ r) g.bases ∙ U.late κ r x

        early : (κ : Kind) (r : ℕ) → r < s → plan J κ r ≡ search → RowIn J R κ r
        early κ r x q = rowin-grow J P R κ r g.grow (U.rows κ r x (λ w. not-skip (sym q ∙ w)))

        d₂ : RowDone J R S action s
        d₂ = row_ok J fuel action s R S sl g.sound (late₁ action) (early action) e₂

        late₂ : Late S goto s
        late₂ = d₂.other goto s not-action (late₁ goto)

        d₃ : RowDone J S Q goto s
        d₃ = row_ok J fuel goto s S Q sl d₂.sound late₂ (λ r x q. rowin-grow J R S goto r d₂.grow (early goto r x q)) e₃

        homes₂ : Homes S s
        homes₂ r x = let q = homes₁ r x in (q.0, d₂.grow.places r q.0 q.1)

        placed : (t : ℕ) → t < suc s → (x : ℕ) × (S.place t ≡ some x)
        placed = below_suc (λ (t : ℕ). (x : ℕ) × (S.place t ≡ some x)) s homes₂ (p.0, d₂.grow.places s p.0 p.1)

        unbased : (t : ℕ) → S.place t ≡ none → (κ : Kind) → Dec (t < suc s) → S.base κ t ≡ 0
        unbased t e κ (yes m) = let q = placed t m in let y : none ≡ some q.0 = sym e ∙ q.1 in absurd (let w : ◌≡◌ {A = ℕ} 0 1 = cc in omega arith)
        unbased t e action (no m) = d₂.late t (omega arith)
        unbased t e goto (no m) = late₂ t (omega arith)

        l₂ : Live J S
        l₂ = record { sound = d₂.sound; tied = d₂.ties l₁.tied; origin = d₂.grow.owners 0 (own 0) refl l₁.origin; unbased = λ t e κ. unbased t e κ (dec_lt t (suc s)) }

states-square : (J : Job) (W fuel n : ℕ) (P Q : St) → n ≤ J.states → Upto J P 0 → P.owner 0 ≡ own 0 → ((x : ℕ) × (P.place 0 ≡ some x))
    → ((s : ℕ) → s < J.states → (κ : Kind) → RowOk J κ s) → P.top ≤ W
    → states_upto J fuel n P ≡ some Q → states_b J W fuel n (render J W P) ≡ Answer J W Q
states-square J W fuel zero P Q ln U o z ok room h = let q : P ≡ Q = cc in subst (λ (R : St). some (render J W P) ≡ Answer J W R) q (same_answer J W P room)
states-square J W fuel (suc n) P Q ln U o z ok room h =
    let r = bind-some (states_upto J fuel n P) (state_step J fuel n) Q h in
    let a = states-ok J fuel n P r.0 (omega arith) U r.1 in
    let b = state-ok J fuel n r.0 Q ln a.1 r.2 in
    bind-answer J W r.0 Q (states_b J W fuel n (render J W P)) (state_b J W fuel n) b.0.tops
    (states-square J W fuel n P r.0 (omega arith) U o z ok room r.1)
    (λ m. state-square J W fuel n r.0 Q ln a.1 (a.0.owners 0 (own 0) refl o) (z.0, a.0.places 0 z.0 z.1) (ok n ln) m r.2)

target-square : (J : Job) (W A t : ℕ) (P Q : St) → J.gsig A ≡ t → t < J.states → Live J P → P.top ≤ W → target J A t P ≡ some Q → target_b J W A t (render J W P) ≡ Answer J W Q
target-square J W A zero P Q e lt l room h = let q : P ≡ Q = cc in subst (λ (R : St). some (render J W P) ≡ Answer J W R) q (same_answer J W P room)
target-square J W A (suc t) P Q e lt l room h = go (P.place (suc t)) refl h
  where
    go : (o : Option ℕ) → P.place (suc t) ≡ o → target_to J A (suc t) o P ≡ some Q → house_b J W (suc t) (J.off A) (pos A) (render J W P) ≡ Answer J W Q
    go none i k = house-square J W (dflt A) (suc t) (J.off A) (pos A) P Q refl l.tied (l.unbased (suc t) i) room e lt i k
    go (some x) i k = absurd (let z : ◌≡◌ {A = ℕ} 0 1 = cc in omega arith)

targets-square : (J : Job) (W n : ℕ) (P Q : St) → ((A : ℕ) → J.gsig A < J.states) → Live J P → P.top ≤ W → targets_upto J n P ≡ some Q → targets_b J W n (render J W P) ≡ Answer J W Q
targets-square J W zero P Q ts l room h = let q : P ≡ Q = cc in subst (λ (R : St). some (render J W P) ≡ Answer J W R) q (same_answer J W P room)
targets-square J W (suc n) P Q ts l room h =
    let r = bind-some (targets_upto J n P) (target J (J.terms + n) (J.gsig (J.terms + n))) Q h in
    let i = targets-ok J n P r.0 l.sound r.1 in
    let t = target_ok J (J.terms + n) r.0 Q (J.gsig (J.terms + n)) refl i.0.sound r.2 in
    bind-answer J W r.0 Q (targets_b J W n (render J W P)) (target_b J W (J.terms + n) (J.gsig (J.terms + n))) t.0.grow.tops
    (targets-square J W n P r.0 ts l room r.1)
    (λ m. target-square J W (J.terms + n) (J.gsig (J.terms + n)) r.0 Q refl (ts (J.terms + n)) (live-good J P r.0 i.0 l) m r.2)

blank-render : (J : Job) (W : ℕ) → render J W empty ≡ blank_b J W
unfolding render blank_b empty base_at check_at
blank-render J W = λ i. record { bases = tab-const (pos 0) W 0 i; checks = tab-const (pos J.syms) W 0 i; marks = tab-const 0 W 0 i; places = tab-const 0 J.states 0 i }

-- the machine on the arrays answers what the board's placement says: the arrays of the board, or none if its top is above W
pub placement-square : (J : Job) (W fuel : ℕ) (Q : St) → WF J → placement J fuel ≡ some Q → placement_b J W fuel ≡ Answer J W Q
unfolding placement placement_b
placement-square J W fuel Q wf h =
    let r₁ = bind-some (settle (own 0) 0 0 empty) (λ P. bind (targets_upto J (J.syms - J.terms) P) (states_upto J fuel J.states)) Q h in
    let r₂ = bind-some (targets_upto J (J.syms - J.terms) r₁.0) (states_upto J fuel J.states) Q r₁.2 in
    go r₁.0 r₂.0 r₁.1 r₂.1 r₂.2
  where
    tied₀ : Tied J empty
    tied₀ c = unfold empty in tt

    go : (P R : St) → settle (own 0) 0 0 empty ≡ some P → targets_upto J (J.syms - J.terms) P ≡ some R → states_upto J fuel J.states R ≡ some Q
        → bind_b (house_b J W 0 0 (pos J.syms) (blank_b J W)) (λ A. bind_b (targets_b J W (J.syms - J.terms) A) (states_b J W fuel J.states)) ≡ Answer J W Q
    go P R e₁ e₂ e₃ =
        bind-answer J W P Q (house_b J W 0 0 (pos J.syms) (blank_b J W)) (λ A. bind_b (targets_b J W (J.syms - J.terms) A) (states_b J W fuel J.states))
        (grow-trans g₂.0.grow g₃.0).tops
        (ap (house_b J W 0 0 (pos J.syms)) (sym (blank-render J W))
        ∙ house-square J W (own 0) 0 0 (pos J.syms) empty P refl tied₀ (λ κ. unfold empty in refl) (unfold empty in omega arith) refl wf.some-states (unfold empty in refl) e₁)
        (λ room₁.
        bind-answer J W R Q (targets_b J W (J.syms - J.terms) (render J W P)) (states_b J W fuel J.states) g₃.0.tops
        (targets-square J W (J.syms - J.terms) P R wf.target l₁ room₁ e₂)
        (λ room₂. states-square J W fuel J.states R Q (omega arith) U (g₂.0.grow.owners 0 (own 0) refl g₁.1) (0, g₂.0.grow.places 0 0 g₁.2) wf.rows room₂ e₃))
      where
        g₁ : Good J empty P × (P.owner 0 ≡ own 0) × (P.place 0 ≡ some 0)
        g₁ = settle-ok J (own 0) 0 0 empty P tt refl (unfold empty in refl) (sound_empty J) e₁

        no-base : (κ : Kind) (t : ℕ) → P.base κ t ≡ 0
        no-base κ t = ap (λ (f : Kind → ℕ → ℕ). f κ t) g₁.0.bases ∙ (unfold empty in refl)

        l₁ : Live J P
        l₁ = record { sound = g₁.0.sound; tied = g₁.0.ties tied₀; origin = g₁.1; unbased = λ t e κ. no-base κ t }

        g₂ : Good J P R × ((m : ℕ) → m < J.syms - J.terms → TargetIn J R (J.terms + m))
        g₂ = targets-ok J (J.syms - J.terms) P R g₁.0.sound e₂

        U : Upto J R 0
        U =
            record {
              sound = g₂.0.sound;
              tied = g₂.0.ties (g₁.0.ties tied₀);
              late = λ κ r x. ap (λ (f : Kind → ℕ → ℕ). f κ r) g₂.0.bases ∙ no-base κ r;
              homes = λ s x. absurd (omega arith);
              rows = λ κ s x p. absurd (omega arith);
            }

        g₃ : Grow R Q × Upto J Q J.states
        g₃ = states-ok J fuel J.states R Q (omega arith) U e₃

pub machine : (J : Job) → WF J → (W : ℕ) → placement_b J W (bound J) ≡ bench_of (pack J W)
unfolding pack
machine J wf W = of (placement-total J wf (bound J) (omega arith))
  where
    same : (P : St) (t : Bool) → cond t (some (render J W P)) none ≡ bench_of (cond t (some (arrays J W P)) none)
    same P true = unfold arrays render in refl
    same P false = refl

    of : Ends (placement J (bound J)) (λ Q. Within Q (bound J)) → placement_b J W (bound J) ≡ bench_of (fits J W (placement J (bound J)))
    of p = rw p.is (placement-square J W (bound J) p.board wf p.is ∙ same p.board (leb p.board.top W))
