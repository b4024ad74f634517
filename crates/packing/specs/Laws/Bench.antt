-- The bench of a board: its tests are the board's tests. Assumes nothing.
use Rattle.std.specs.Prelude.{◌≡◌, ℕ, zero, suc, ◌+◌, ◌≤◌, ◌<◌, Bool, true, false, cond, ◌||◌, eqb, ℤ, pos, get_or, refl}
use Rattle.std.proofs.Common.{sym, ap, ap₂, ◌∙◌, subst, arith, ne_eqb}
use Rattle.std.proofs.Math.Option.{Option, none, some}
use Rattle.std.proofs.Math.Decide.{dec_lt}
use Rattle.std.proofs.Math.ListN.{get_or-eq_default}
use Rattle.cells.specs.Read.{Kind, action, goto, is_number}
use Rattle.packing.specs.Job.{Job}
use Rattle.packing.specs.Board.{Owner, own, St, is_free, used}
use Rattle.packing.specs.Bench.{Bench, free_b, no_cell_b, base_of_b, used_b}
use Rattle.packing.specs.Packed.{place_of, base_at, mark_at}
use Rattle.packing.specs.Laws.Sound.{IsHome, Sound}
use Rattle.packing.specs.Laws.Tied.{Tied, Good}
use Rattle.packing.specs.Laws.Steps.{Late}
use Rattle.packing.specs.Laws.Tabulate.{tab₀, length-tab}
use Rattle.packing.specs.Laws.Stores.{bases_of, checks_of, marks_of, places_of, home-base}
use Rattle.packing.specs.Laws.Needs.{homeless, free_in, no_cell}

-- the four arrays of a board
unfoldable pub render : Job → ℕ → St → Bench
render J W P = record { bases = bases_of J W P; checks = checks_of J W P; marks = marks_of W P; places = places_of J P }

-- what of a board is known throughout
pub record Live (J : Job) (P : St) : Type 0 where
  pub sound : Sound J P
  pub tied : Tied J P
  pub origin : P.owner 0 ≡ own 0
  pub unbased : (t : ℕ) → P.place t ≡ none → (κ : Kind) → P.base κ t ≡ 0

pub live-good : (J : Job) (P Q : St) → Good J P Q → Live J P → Live J Q
live-good J P Q g l =
    record {
      sound = g.sound;
      tied = g.ties l.tied;
      origin = g.grow.owners 0 (own 0) refl l.origin;
      unbased = λ t e κ. ap (λ (f : Kind → ℕ → ℕ). f κ t) g.bases ∙ l.unbased t (back t e (P.place t) refl) κ;
    }
  where
    back : (t : ℕ) → Q.place t ≡ none → (x : Option ℕ) → P.place t ≡ x → P.place t ≡ none
    back t e none i = i
    back t e (some x) i = let z : none ≡ some x = sym e ∙ g.grow.places t x i in absurd (let w : ◌≡◌ {A = ℕ} 0 1 = cc in omega arith)

-- the mark of a cell is 0 exactly where the cell is free
pub mark-free : (W : ℕ) (P : St) (c : ℕ) → c < W → eqb (get_or (marks_of W P) c 0) 0 ≡ is_free (P.owner c)
mark-free W P c l = rw (tab₀ (mark_at P) W 0 c l) (go (is_free (P.owner c)))
  where
    go : (b : Bool) → eqb (cond b 0 1) 0 ≡ b
    go true = refl
    go false = refl

-- the place of a state other than 0 is 0 exactly where the state has no cell
pub place_none : (J : Job) (P : St) (t : ℕ) → Sound J P → P.owner 0 ≡ own 0 → 1 ≤ t → t < J.states → eqb (get_or (places_of J P) t 0) 0 ≡ homeless (P.place t)
place_none J P t S o l lt = rw (tab₀ (λ s. place_of (P.place s)) J.states 0 t lt) (go (P.place t) refl)
  where
    go : (x : Option ℕ) → P.place t ≡ x → eqb (place_of x) 0 ≡ homeless x
    go none e = refl
    go (some zero) e = let h : IsHome J (own 0) t = subst (λ (q : Owner). IsHome J q t) o (S.home t 0 e) in absurd (omega arith)
    go (some (suc x)) e = ne_eqb (suc x) 0 (omega arith)

-- Base at a state's place is its action base: there is no other store of bases
pub base-of : (J : Job) (W : ℕ) (P : St) (s x : ℕ) → Sound J P → s < J.states → P.place s ≡ some x → x < W
    → get_or (bases_of J W P) (get_or (places_of J P) s 0) (pos 0) ≡ pos (P.base action s)
base-of J W P s x S ls e l =
    let q : get_or (places_of J P) s 0 ≡ x = tab₀ (λ r. place_of (P.place r)) J.states 0 s ls ∙ ap place_of e in
    ap (λ (c : ℕ). get_or (bases_of J W P) c (pos 0)) q ∙ tab₀ (base_at J P) W (pos 0) x l ∙ home-base J P s x (S.home s x e) e

-- only the bases of earlier rows count
pub used-late : (P : St) (κ : Kind) (b s k : ℕ) → 1 ≤ b → Late P κ s → used P κ b (s + k) ≡ used P κ b s
used-late P κ b s zero l late = let q : s + 0 ≡ s = omega arith in ap (used P κ b) q
used-late P κ b s (suc k) l late =
    let q : s + suc k ≡ suc (s + k) = omega arith in
    let z : P.base κ (s + k) ≡ 0 = late (s + k) (omega arith) in
    ap (used P κ b) q ∙ ap (λ (t : Bool). t || used P κ b (s + k)) (ne_eqb (P.base κ (s + k)) b (omega arith)) ∙ used-late P κ b s k l late

pub free_b-is : (J : Job) (W : ℕ) (P : St) (c : ℕ) → Live J P → P.top ≤ W → free_b (render J W P) c ≡ free_in P c
unfolding render
free_b-is J W P c l room = go (dec_lt c W)
  where
    out : (b : Bool) → is_free (P.owner c) ≡ b → W ≤ c → true ≡ b
    out true e h = refl
    out false e h = let z = l.sound.below c e in absurd (omega arith)

    go : Dec (c < W) → eqb (get_or (marks_of W P) c 0) 0 ≡ is_free (P.owner c)
    go (yes h) = mark-free W P c h
    go (no h) =
        ap (λ (z : ℕ). eqb z 0) (get_or-eq_default (marks_of W P) 0 (let q = length-tab (mark_at P) W 0 in omega arith))
        ∙ out (is_free (P.owner c)) refl (omega arith)

pub no_cell_b-is : (J : Job) (W : ℕ) (P : St) (t : ℕ) → Live J P → 1 ≤ t → t < J.states → no_cell_b (render J W P) t ≡ no_cell P t
unfolding render
no_cell_b-is J W P t l a b = place_none J P t l.sound l.origin a b

pub base_of_b-is : (J : Job) (W : ℕ) (P : St) (κ : Kind) (r x : ℕ) → Live J P → P.top ≤ W → r < J.states → P.place r ≡ some x → base_of_b κ (render J W P) r ≡ pos (P.base κ r)
unfolding render
base_of_b-is J W P action r x l room lr e =
    let h = l.sound.below (suc x) (rw (l.sound.attached r x e) refl) in base-of J W P r x l.sound lr e (omega arith)
base_of_b-is J W P goto r x l room lr e =
    let h = l.sound.below (suc x) (rw (l.sound.attached r x e) refl) in
    let q : get_or (places_of J P) r 0 ≡ x = tab₀ (λ s. place_of (P.place s)) J.states 0 r lr ∙ ap place_of e in
    ap (λ (c : ℕ). get_or (bases_of J W P) (suc c) (pos 0)) q ∙ tab₀ (base_at J P) W (pos 0) (suc x) (omega arith) ∙ at_x
  where
    at_x : base_at J P (suc x) ≡ pos (P.base goto r)
    at_x = unfold base_at in rw (l.sound.attached r x e) refl

-- the states below n have cells
abbrev pub Homes : St → ℕ → Type 0
Homes P n = (r : ℕ) → r < n → (x : ℕ) × (P.place r ≡ some x)

pub used_b-is : (J : Job) (W : ℕ) (P : St) (κ : Kind) (b n : ℕ) → Live J P → P.top ≤ W → n ≤ J.states → Homes P n → used_b (render J W P) κ b n ≡ used P κ b n
used_b-is J W P κ b zero l room ln h = refl
used_b-is J W P κ b (suc n) l room ln h =
    let p = h n (omega arith) in
    ap₂ (λ (x y : Bool). x || y) (ap (λ (z : ℤ). is_number z b) (base_of_b-is J W P κ n p.0 l room ln p.1))
    (used_b-is J W P κ b n l room (omega arith) (λ r m. h r (omega arith)))
