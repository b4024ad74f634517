-- Placement never runs out: each search ends below a bound that grows by 4M + 4 with each state. Assumes nothing.
use Rattle.std.proofs.lemmas.Bool.{lt-leb}
use Rattle.std.specs.Prelude.{◌≡◌, refl, Bool, true, false, ◌&&◌, ℕ, zero, suc, ◌+◌, ◌-◌, ◌*◌, ◌≤◌, ◌<◌, max}
use Rattle.std.proofs.Common.{sym, ap, ◌∙◌, subst, arith, ne_eqb, le-leb}
use Rattle.std.proofs.Math.Option.{Option, none, some}
use Rattle.std.proofs.Math.Decide.{dec_lt}
use Rattle.cells.specs.Read.{Kind, action, goto}
use Rattle.packing.specs.Job.{Job}
use Rattle.packing.specs.Rows.{Plan, search, share, skip, plan}
use Rattle.packing.specs.Board.{Owner, own, att, dflt, St, is_free, empty, upd, put, house, set_base, bind, settle, target, targets_upto, home_if, home_step, used, try_of, try_row, row_by, row_step, state_step, states_upto, placement}
use Rattle.packing.specs.Packed.{Packed, arrays, bound, pack}
use Rattle.packing.specs.Promises.{Room}
use Rattle.packing.specs.Laws.WellFormed.{WF}
use Rattle.packing.specs.Laws.Grow.{Upd, here, there, upd-at, SetB, this-row, other_row, setb-at}
use Rattle.packing.specs.Laws.Tied.{through}
use Rattle.packing.specs.Laws.Fill.{first-ok}
use Rattle.packing.specs.Laws.Top.{Ends, ends-bind, Clear, settle-bd, fill-bd, settle-some, fill-some, first_some, first-le}

-- all bases are below K, and the top is at most K
pub record Within (P : St) (K : ℕ) : Type 0 where
  pub clear : Clear P
  pub top : P.top ≤ K
  pub bases : (κ : Kind) (r : ℕ) → P.base κ r < K

used-none : (P : St) (κ : Kind) (b n : ℕ) → ((r : ℕ) → P.base κ r ≡ b → ⊥) → used P κ b n ≡ false
used-none P κ b zero h = refl
used-none P κ b (suc n) h = rw (ne_eqb (P.base κ n) b (h n)) (used-none P κ b n h)

try-some : (J : Job) (κ : Kind) (s : ℕ) (P : St) (K : ℕ) → Within P K → (R : St) × (try_row J κ s P K ≡ some R)
unfolding try_row
try-some J κ s P K w =
    let t = w.top in
    let f = fill-some J κ s K J.syms (set_base κ s K P) (unfold set_base in w.clear) (unfold set_base in omega arith) in
    (f.0, rw (used-none P κ K J.states (λ r e. let l = w.bases κ r in omega arith)) f.1)

set-within : (κ : Kind) (s b : ℕ) (P : St) (K : ℕ) → b ≤ K → Within P K → (k : Kind) (r : ℕ) → (set_base κ s b P).base k r < suc K
set-within κ s b P K l w k r = go (setb-at P κ s b k r)
  where
    go : SetB P κ s b k r → (set_base κ s b P).base k r < suc K
    go (this-row i j u) = rw u (omega arith)
    go (other_row i u) = rw u (let z = w.bases k r in omega arith)

try-within : (J : Job) (κ : Kind) (s b : ℕ) (P Q : St) (K : ℕ) → b ≤ K → Within P K → try_row J κ s P b ≡ some Q → Within Q (K + 2 * J.syms + 1)
unfolding try_row
try-within J κ s b P Q K l w h = go (used P κ b J.states) h
  where
    go : (t : Bool) → try_of t J κ s b P ≡ some Q → Within Q (K + 2 * J.syms + 1)
    go true k = absurd (let z : ◌≡◌ {A = ℕ} 0 1 = cc in omega arith)
    go false k =
        let d = fill-bd J κ s b J.syms (set_base κ s b P) Q k in
        let t : Q.top ≤ max P.top (b + 2 * J.syms) = unfold set_base in d.top in
        let u = w.top in
        record {
          clear = d.clear (unfold set_base in w.clear);
          top = omega arith;
          bases = λ q r. rw d.base (let z = set-within κ s b P K l w q r in omega arith);
        }

more : (P : St) (K M : ℕ) → K ≤ M → Within P K → Within P M
more P K M l w = record { clear = w.clear; top = let t = w.top in omega arith; bases = λ k r. let z = w.bases k r in omega arith }

row-total : (J : Job) (fuel : ℕ) (κ : Kind) (s : ℕ) (P : St) (K : ℕ) → 1 ≤ K → K ≤ 1 + fuel → Within P K → Ends (row_step J fuel κ s P) (λ Q. Within Q (K + 2 * J.syms + 1))
unfolding row_step
row-total J fuel κ s P K l m w = go (plan J κ s)
  where
    go : (p : Plan) → Ends (row_by p J fuel κ s P) (λ Q. Within Q (K + 2 * J.syms + 1))
    go search =
        let t = try-some J κ s P K w in
        let f = first_some (try_row J κ s P) fuel 1 (try_row J κ s P 1) K t.0 refl l m t.1 in
        let i = first-ok (try_row J κ s P) fuel 1 (try_row J κ s P 1) f.0 refl f.1 in
        record {
          board = f.0;
          is = f.1;
          holds = try-within J κ s i.at P f.0 K (first-le (try_row J κ s P) 1 f.0 t.0 K i l t.1) w i.found;
        }
    go (share r) =
        record {
          board = set_base κ s (P.base κ r) P;
          is = refl;
          holds = record {
            clear = unfold set_base in w.clear;
            top = unfold set_base in let t = w.top in omega arith;
            bases = λ k q. let z = set-within κ s (P.base κ r) P K (let y = w.bases κ r in omega arith) w k q in omega arith;
          };
        }
    go skip = record { board = P; is = refl; holds = more P K (K + 2 * J.syms + 1) (omega arith) w }

settle-within : (o : Owner) (t c : ℕ) (P Q : St) (K : ℕ) → c ≤ K → Within P K → settle o t c P ≡ some Q → Within Q (K + 2)
settle-within o t c P Q K l w h =
    let d = settle-bd o t c P Q h in
    let x = d.top in
    let y = w.top in
    record { clear = d.clear w.clear; top = omega arith; bases = λ k r. rw d.base (let z = w.bases k r in omega arith) }

home-total : (fuel s : ℕ) (P : St) (K : ℕ) → 1 ≤ K → K ≤ 1 + fuel → Within P K → Ends (home_step fuel s P) (λ Q. Within Q (K + 2))
unfolding home_step
home-total fuel s P K l m w = go (P.place s)
  where
    f : ℕ → Option St
    f x = settle (own s) s x P

    go : (o : Option ℕ) → Ends (home_if o fuel s P) (λ Q. Within Q (K + 2))
    go (some x) = record { board = P; is = refl; holds = more P K (K + 2) (omega arith) w }
    go none =
        let t = settle-some (own s) s K P w.clear w.top in
        let q = first_some f fuel 1 (f 1) K t.0 refl l m t.1 in
        let i = first-ok f fuel 1 (f 1) q.0 refl q.1 in
        record { board = q.0; is = q.1; holds = settle-within (own s) s i.at P q.0 K (first-le f 1 q.0 t.0 K i l t.1) w i.found }

state-total : (J : Job) (fuel s : ℕ) (P : St) (K M : ℕ) → 1 ≤ K → K + (4 * J.syms + 4) ≡ M → M ≤ 1 + fuel → Within P K → Ends (state_step J fuel s P) (λ Q. Within Q M)
unfolding state_step
state-total J fuel s P K M l e m w =
    ends-bind (λ R. bind (row_step J fuel action s R) (row_step J fuel goto s)) (home-total fuel s P K l (omega arith) w)
    (λ R v. ends-bind (row_step J fuel goto s) (row-total J fuel action s R (K + 2) (omega arith) (omega arith) v)
    (λ S u.
    let q : K + 2 + 2 * J.syms + 1 + 2 * J.syms + 1 ≡ M = omega arith in
    subst (λ (z : ℕ). Ends (row_step J fuel goto s S) (λ Q. Within Q z)) q (row-total J fuel goto s S (K + 2 + 2 * J.syms + 1) (omega arith) (omega arith) u)))

states-total : (J : Job) (fuel n : ℕ) (P : St) (K : ℕ) → 1 ≤ K → K + n * (4 * J.syms + 4) ≤ 1 + fuel → Within P K
    → Ends (states_upto J fuel n P) (λ Q. Within Q (K + n * (4 * J.syms + 4)))
states-total J fuel zero P K l m w = record { board = P; is = refl; holds = more P K (K + 0 * (4 * J.syms + 4)) (omega arith) w }
states-total J fuel (suc n) P K l m w =
    ends-bind (state_step J fuel n) (states-total J fuel n P K l (omega arith) w)
    (λ R v. state-total J fuel n R (K + n * (4 * J.syms + 4)) (K + suc n * (4 * J.syms + 4)) (omega arith) (omega arith) m v)

-- ---- the signed targets

-- before A: no cell from there on is taken, and a state has a cell only if it is 0 or signed before A
record Before (J : Job) (P : St) (A : ℕ) : Type 0 where
  clear : Clear P
  top : P.top ≤ max 2 (J.off A)
  base : (κ : Kind) (r : ℕ) → P.base κ r ≡ 0
  nowhere : (t : ℕ) → 1 ≤ t → ((B : ℕ) → J.terms ≤ B → B < A → J.gsig B ≡ t → ⊥) → P.place t ≡ none

settle-place : (o : Owner) (t c : ℕ) (P Q : St) (u : ℕ) → settle o t c P ≡ some Q → (u ≡ t → ⊥) → Q.place u ≡ P.place u
unfolding settle put house
settle-place o t c P Q u e n =
    let g = through (is_free (P.owner c) && is_free (P.owner (suc c))) (house t c (put (suc c) (att t) (put c o P))) Q e in
    subst (λ (R : St). R.place u ≡ P.place u) g.out (go (upd-at P.place t (some c) u))
  where
    go : Upd P.place t (some c) u → upd P.place t (some c) u ≡ P.place u
    go (here i v) = absurd (n i)
    go (there i v) = v

target-total : (J : Job) → WF J → (A : ℕ) (P : St) → J.terms ≤ A → A < J.syms → Before J P A → Ends (target J A (J.gsig A) P) (λ Q. Before J Q (suc A))
target-total J wf A P tA lA b = go (J.gsig A) refl
  where
    up : J.off A + 2 ≤ J.off (suc A)
    up = wf.edition.apart A tA

    go : (t : ℕ) → J.gsig A ≡ t → Ends (target J A t P) (λ Q. Before J Q (suc A))
    go zero e =
        record {
          board = P;
          is = refl;
          holds = record { clear = b.clear; top = let t = b.top in omega (arith, up); base = b.base; nowhere = λ t l h. b.nowhere t l (λ B x y. h B x (omega arith)) };
        }
    go (suc t) e =
        let not_start : A ≡ J.terms → ⊥ = λ q. let z : J.gsig A ≡ 0 = rw q wf.start in omega arith in
        let two = wf.edition.least A (omega arith) in
        let bt = b.top in
        let none_yet : P.place (suc t) ≡ none = b.nowhere (suc t) (omega arith) (λ B x y q. wf.distinct B A x y lA (omega arith) (q ∙ sym e)) in
        let s = settle-some (dflt A) (suc t) (J.off A) P b.clear (omega arith) in
        let d = settle-bd (dflt A) (suc t) (J.off A) P s.0 s.1 in
        let dt = d.top in
        record {
          board = s.0;
          is = rw none_yet s.1;
          holds = record {
            clear = d.clear b.clear;
            top = omega (arith, up);
            base = λ κ r. rw d.base (b.base κ r);
            nowhere = λ u l h.
                settle-place (dflt A) (suc t) (J.off A) P s.0 u s.1 (λ q. h A tA (omega arith) (e ∙ sym q)) ∙ b.nowhere u l (λ B x y. h B x (omega arith));
          };
        }

targets-total : (J : Job) → WF J → (n m : ℕ) (P : St) → J.terms + n ≡ m → m ≤ J.syms → Before J P J.terms → Ends (targets_upto J n P) (λ Q. Before J Q m)
targets-total J wf zero m P e l b = record { board = P; is = refl; holds = subst (λ (z : ℕ). Before J P z) (let q : J.terms ≡ m = omega arith in q) b }
targets-total J wf (suc n) m P e l b =
    ends-bind (target J (J.terms + n) (J.gsig (J.terms + n))) (targets-total J wf n (J.terms + n) P refl (omega arith) b)
    (λ R v.
    let q : suc (J.terms + n) ≡ m = omega arith in
    subst (λ (z : ℕ). Ends (target J (J.terms + n) (J.gsig (J.terms + n)) R) (λ Q. Before J Q z)) q (target-total J wf (J.terms + n) R (omega arith) (omega arith) v))

-- ---- the whole

first-total : (J : Job) → Ends (settle (own 0) 0 0 empty) (λ Q. Before J Q J.terms)
first-total J =
    let s = settle-some (own 0) 0 0 empty (unfold empty in λ c h. refl) (unfold empty in omega arith) in
    let d = settle-bd (own 0) 0 0 empty s.0 s.1 in
    record {
      board = s.0;
      is = s.1;
      holds = record {
        clear = d.clear (unfold empty in λ c h. refl);
        top = let t : s.0.top ≤ max 0 (0 + 2) = unfold empty in d.top in omega arith;
        base = λ κ r. rw d.base (unfold empty in refl);
        nowhere = λ t m h. settle-place (own 0) 0 0 empty s.0 t s.1 (omega arith) ∙ (unfold empty in refl);
      };
    }

pub placement-total : (J : Job) → WF J → (fuel : ℕ) → bound J ≤ fuel → Ends (placement J fuel) (λ Q. Within Q (bound J))
unfolding placement bound
placement-total J wf fuel l =
    ends-bind (λ P. bind (targets_upto J (J.syms - J.terms) P) (states_upto J fuel J.states)) (first-total J)
    (λ P b. ends-bind (states_upto J fuel J.states) (targets-total J wf (J.syms - J.terms) J.syms P (let k = wf.some-syms in omega arith) (omega arith) b)
    (λ R v. states-total J fuel J.states R (2 * J.syms) (let k = wf.some-syms in omega arith) (omega arith) (within R v)))
  where
    within : (R : St) → Before J R J.syms → Within R (2 * J.syms)
    within R v =
        let t = v.top in
        let k = wf.some-syms in
        let o = wf.edition.most J.syms in
        record { clear = v.clear; top = omega arith; bases = λ κ r. rw (v.base κ r) (omega arith) }

-- NOROOM is said exactly where the placement's count is above W
pub pack-room : (J : Job) → WF J → Room J
unfolding pack
pack-room J wf = of (placement-total J wf (bound J) (omega arith))
  where
    of : Ends (placement J (bound J)) (λ Q. Within Q (bound J)) → Room J
    of p =
        record {
          cells = p.board.top;
          bounded = p.holds.top;
          enough = λ W l. (arrays J W p.board, rw (p.is, le-leb p.board.top W l) refl, unfold arrays in refl);
          too_few = λ W l. rw (p.is, lt-leb p.board.top W l) refl;
        }

-- where packing succeeds, it counts at most W cells and at most the bound
pub count-bounded : (J : Job) → Room J → (W : ℕ) (A : Packed) → pack J W ≡ some A → (A.count ≤ W) × (A.count ≤ bound J)
count-bounded J R W A e = go (dec_lt W R.cells)
  where
    go : Dec (W < R.cells) → (A.count ≤ W) × (A.count ≤ bound J)
    go (yes l) = let y : none ≡ some A = sym (R.too_few W l) ∙ e in absurd (let z : ◌≡◌ {A = ℕ} 0 1 = cc in omega arith)
    go (no l) =
        let p = R.enough W (omega arith) in
        let q : some p.0 ≡ some A = sym p.1 ∙ e in
        let n : A.count ≡ R.cells = sym (ap count q) ∙ p.2 in
        let b = R.bounded in (omega arith, omega arith)
      where
        count : Option Packed → ℕ
        count none = 0
        count (some B) = B.count
