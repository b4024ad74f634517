-- What each step of placement does to the four arrays: one store, or two side by side. Assumes nothing.
use Rattle.std.specs.Prelude.{◌≡◌, refl, ℕ, suc, ◌+◌, ◌<◌, Bool, true, false, List, eqb, ℤ, set, cond}
use Rattle.std.proofs.Common.{sym, ap, ◌∙◌, arith, eqb-true, eq-eqb}
use Rattle.std.proofs.Math.Option.{Option, none, some}
use Rattle.std.proofs.Math.IntN.{pos}
use Rattle.cells.specs.Read.{Kind, action, goto}
use Rattle.packing.specs.Job.{Act, blank, shift, rule, Job, neg, sign_check}
use Rattle.packing.specs.Rows.{row}
use Rattle.packing.specs.Board.{Owner, free, own, att, ent, dflt, St, is_free, upd, put, house, set_base}
use Rattle.packing.specs.Packed.{place_of, shift_base, act_base, base_of, check_of, base_at, check_at, mark_at, tabulate}
use Rattle.packing.specs.Laws.Grow.{upd_same, upd_other, Upd, here, there, upd-at, SetB, this-row, other_row, setb-at, setb-same}
use Rattle.packing.specs.Laws.Sound.{IsHome}
use Rattle.packing.specs.Laws.Tied.{Tie, Tied}
use Rattle.packing.specs.Laws.Tabulate.{tab-same, tab-set₀, two}

-- ---- the arrays of a board

abbrev pub bases_of : Job → ℕ → St → List ℤ
bases_of J W P = tabulate (base_at J P) W 0

abbrev pub checks_of : Job → ℕ → St → List ℤ
checks_of J W P = tabulate (check_at J P) W 0

abbrev pub marks_of : ℕ → St → List ℕ
marks_of W P = tabulate (mark_at P) W 0

abbrev pub places_of : Job → St → List ℕ
places_of J P = tabulate (λ s. place_of (P.place s)) J.states 0

-- a cell whose owner is kept, and whose state's bases are kept, keeps its Base
pub base_kept : (J : Job) (P Q : St) (d : ℕ) → Tied J P → Q.owner d ≡ P.owner d → ((s x : ℕ) → P.place s ≡ some x → Q.place s ≡ some x)
    → ((s : ℕ) → P.place s ≡ some d → Q.base action s ≡ P.base action s)
    → ((s x : ℕ) → d ≡ suc x → P.place s ≡ some x → Q.base goto s ≡ P.base goto s) → base_at J Q d ≡ base_at J P d
unfolding base_at
base_kept J P Q d tied e pl ba bg = rw e (go (P.owner d) (tied d))
  where
    to : (t x : ℕ) → P.place t ≡ some x → shift_base J Q d t (Q.place t) ≡ shift_base J P d t (P.place t)
    to t x h = rw (h, pl t x h) (at (eqb x d) refl)
      where
        at : (b : Bool) → eqb x d ≡ b → cond b (pos (Q.base action t)) (neg (J.rules + x)) ≡ cond b (pos (P.base action t)) (neg (J.rules + x))
        at true i = ap pos (ba t (h ∙ ap some (eqb-true x d i)))
        at false i = refl

    act : (k : Act) → ((t : ℕ) → k ≡ shift t → (x : ℕ) × (P.place t ≡ some x)) → act_base J Q d k ≡ act_base J P d k
    act blank h = refl
    act (rule r) h = refl
    act (shift t) h = let p = h t refl in to t p.0 p.1

    go : (o : Owner) → Tie J P d o → base_of J Q d o ≡ base_of J P d o
    go free h = refl
    go (own s) h = ap pos (ba s h)
    go (att s) h = ap pos (bg s h.0 h.1 h.2)
    go (ent κ s a) h = act (row J κ s a) h
    go (dflt A) h = ap pos (ba (J.gsig A) h)

-- what a cell's owner makes of it does not depend on the other owners
pub base-parts : (J : Job) (P Q : St) (d : ℕ) (o : Owner) → Q.place ≡ P.place → Q.base ≡ P.base → base_of J Q d o ≡ base_of J P d o
base-parts J P Q d free p b = refl
base-parts J P Q d (own s) p b = rw b refl
base-parts J P Q d (att s) p b = rw b refl
base-parts J P Q d (ent κ s a) p b = act (row J κ s a)
  where
    to : (t : ℕ) (x : Option ℕ) → shift_base J Q d t x ≡ shift_base J P d t x
    to t none = refl
    to t (some x) = rw b refl

    act : (k : Act) → act_base J Q d k ≡ act_base J P d k
    act blank = refl
    act (rule r) = refl
    act (shift t) = ap (λ (f : ℕ → Option ℕ). shift_base J Q d t (f t)) p ∙ to t (P.place t)
base-parts J P Q d (dflt A) p b = rw b refl

-- one cell for an entry: one store to each of Base, Check and marks
pub put-arrays : (J : Job) (W : ℕ) (P : St) (c : ℕ) (o : Owner) → Tied J P → is_free o ≡ false
    → (bases_of J W (put c o P) ≡ set (bases_of J W P) c (base_of J P c o)) × (checks_of J W (put c o P) ≡ set (checks_of J W P) c (check_of J o))
    × (marks_of W (put c o P) ≡ set (marks_of W P) c 1) × (places_of J (put c o P) ≡ places_of J P)
put-arrays J W P c o tied f = (
  tab-set₀ (base_at J P) (base_at J (put c o P)) W c (base_of J P c o) base-c
      (λ d n. base_kept J P (put c o P) d tied (other d n) (unfold put in λ s x e. e) (λ s e. unfold put in refl) (λ s x i e. unfold put in refl)),
  tab-set₀ (check_at J P) (check_at J (put c o P)) W c (check_of J o) (unfold check_at in ap (check_of J) at_c) (λ d n. unfold check_at in ap (check_of J) (other d n)),
  tab-set₀ (mark_at P) (mark_at (put c o P)) W c 1 (rw (at_c, f) refl) (λ d n. ap (λ (z : Owner). cond {A = ℕ} (is_free z) 0 1) (other d n)),
  unfold put in refl,
)
  where
    at_c : (put c o P).owner c ≡ o
    at_c = unfold put in upd_same P.owner c o

    other : (d : ℕ) → (d ≡ c → ⊥) → (put c o P).owner d ≡ P.owner d
    other d n = unfold put in upd_other P.owner c o d n

    base-c : base_at J (put c o P) c ≡ base_of J P c o
    base-c = unfold base_at in ap (base_of J (put c o P) c) at_c ∙ base-parts J P (put c o P) c o (unfold put in refl) (unfold put in refl)

-- the board after a state was given a cell
unfoldable pub settled : St → Owner → ℕ → ℕ → St
settled P o t c = house t c (put (suc c) (att t) (put c o P))

-- a state's cell and attached cell: Base stays 0 in both
pub settle-arrays : (J : Job) (W : ℕ) (P : St) (o : Owner) (t c : ℕ) → Tied J P → IsHome J o t → P.owner c ≡ free → P.owner (suc c) ≡ free
    → P.place t ≡ none → ((κ : Kind) → P.base κ t ≡ 0) → t < J.states
    → (bases_of J W (settled P o t c) ≡ bases_of J W P)
    × (checks_of J W (settled P o t c) ≡ set (set (checks_of J W P) c (check_of J o)) (suc c) (sign_check J (J.ssig t)))
    × (marks_of W (settled P o t c) ≡ set (set (marks_of W P) c 1) (suc c) 1)
    × (places_of J (settled P o t c) ≡ set (places_of J P) t c)
settle-arrays J W P o t c tied h f₁ f₂ pn b0 lt = (
  tab-same (base_at J P) (base_at J Q) W 0 (λ d l. base d (upd-at P.owner c o d) (upd-at (upd P.owner c o) (suc c) (att t) d)),
  two W c (check_at J P) (check_at J Q) (check_of J o) (sign_check J (J.ssig t)) (unfold check_at in ap (check_of J) at_c) (unfold check_at in ap (check_of J) at-sc)
      (λ d n m. unfold check_at in ap (check_of J) (other d n m)),
  two W c (mark_at P) (mark_at Q) 1 1 (rw at_c (taken o h)) (rw at-sc refl) (λ d n m. ap (λ (z : Owner). cond {A = ℕ} (is_free z) 0 1) (other d n m)),
  tab-set₀ (λ s. place_of (P.place s)) (λ s. place_of (Q.place s)) J.states t c (unfold settled house put in ap place_of (upd_same P.place t (some c)))
      (λ s n. unfold settled house put in ap place_of (upd_other P.place t (some c) s n)),
)
  where
    Q : St
    Q = settled P o t c

    at-sc : Q.owner (suc c) ≡ att t
    at-sc = unfold settled house put in upd_same (upd P.owner c o) (suc c) (att t)

    at_c : Q.owner c ≡ o
    at_c = unfold settled house put in upd_other (upd P.owner c o) (suc c) (att t) c (omega arith) ∙ upd_same P.owner c o

    other : (d : ℕ) → (d ≡ c → ⊥) → (d ≡ suc c → ⊥) → Q.owner d ≡ P.owner d
    other d n m = unfold settled house put in upd_other (upd P.owner c o) (suc c) (att t) d m ∙ upd_other P.owner c o d n

    bases : Q.base ≡ P.base
    bases = unfold settled house put in refl

    taken : (q : Owner) → IsHome J q t → cond {A = ℕ} (is_free q) 0 1 ≡ 1
    taken free k = absurd k
    taken (own r) k = refl
    taken (att r) k = refl
    taken (ent κ r a) k = refl
    taken (dflt A) k = refl

    placed : Q.place t ≡ some c
    placed = unfold settled house put in upd_same P.place t (some c)

    kept : (s x : ℕ) → P.place s ≡ some x → Q.place s ≡ some x
    kept s x e = unfold settled house put in upd_other P.place t (some c) s (λ q. let z : none ≡ some x = sym pn ∙ ap P.place (sym q) ∙ e in let w : ◌≡◌ {A = ℕ} 0 1 = cc in omega arith) ∙ e

    zero-at : (q : Owner) → IsHome J q t → base_of J Q c q ≡ pos 0
    zero-at free k = refl
    zero-at (own r) k = rw (k, bases, b0 action) refl
    zero-at (att r) k = absurd k
    zero-at (ent κ r a) k = rw (k, placed, eq-eqb c c refl, bases, b0 action) refl
    zero-at (dflt A) k = rw (k, bases, b0 action) refl

    base : (d : ℕ) → Upd P.owner c o d → Upd (upd P.owner c o) (suc c) (att t) d → base_at J Q d ≡ base_at J P d
    base d u (here j w) = unfold base_at in rw (j, at-sc, f₂, bases, b0 goto) refl
    base d (here i u) (there j w) = unfold base_at in rw (i, at_c, f₁) (zero-at o h)
    base d (there i u) (there j w) = base_kept J P Q d tied (other d i j) kept (λ s e. ap (λ (g : Kind → ℕ → ℕ). g action s) bases) (λ s x k e. ap (λ (g : Kind → ℕ → ℕ). g goto s) bases)

-- ---- a base: one store to Base, at the state's cell or at its attached cell

pub home-base : (J : Job) (P : St) (s x : ℕ) → IsHome J (P.owner x) s → P.place s ≡ some x → base_at J P x ≡ pos (P.base action s)
unfolding base_at
home-base J P s x h e = go (P.owner x) h
  where
    go : (o : Owner) → IsHome J o s → base_of J P x o ≡ pos (P.base action s)
    go free h = absurd h
    go (own r) h = rw h refl
    go (att r) h = absurd h
    go (ent κ r a) h = rw (h, e, eq-eqb x x refl) refl
    go (dflt A) h = rw h refl

differ : action ≡ goto → ⊥
differ e = let z : ◌≡◌ {A = ℕ} 0 1 = cc in omega arith

pub action-arrays : (J : Job) (W : ℕ) (P : St) (s b x : ℕ) → Tied J P → P.place s ≡ some x → IsHome J (P.owner x) s
    → (bases_of J W (set_base action s b P) ≡ set (bases_of J W P) x (pos b)) × (checks_of J W (set_base action s b P) ≡ checks_of J W P)
    × (marks_of W (set_base action s b P) ≡ marks_of W P) × (places_of J (set_base action s b P) ≡ places_of J P)
action-arrays J W P s b x tied e h = (
  tab-set₀ (base_at J P) (base_at J Q) W x (pos b) (home-base J Q s x (unfold set_base in h) (unfold set_base in e) ∙ ap pos (setb-same P action s b))
      (λ d n. base_kept J P Q d tied (unfold set_base in refl) (unfold set_base in λ r y k. k) (λ r k. ba d n r k (setb-at P action s b action r)) (λ r y i k. bg r (setb-at P action s b goto r))),
  unfold set_base check_at in refl,
  unfold set_base in refl,
  unfold set_base in refl,
)
  where
    Q : St
    Q = set_base action s b P

    ba : (d : ℕ) → (d ≡ x → ⊥) → (r : ℕ) → P.place r ≡ some d → SetB P action s b action r → Q.base action r ≡ P.base action r
    ba d n r k (this-row i j u) = let z : some d ≡ some x = sym k ∙ ap P.place j ∙ e in absurd (n cc)
    ba d n r k (other_row i u) = u

    bg : (r : ℕ) → SetB P action s b goto r → Q.base goto r ≡ P.base goto r
    bg r (this-row i j u) = absurd (differ (sym i))
    bg r (other_row i u) = u

pub goto-arrays : (J : Job) (W : ℕ) (P : St) (s b x : ℕ) → Tied J P → P.place s ≡ some x → P.owner (suc x) ≡ att s
    → (bases_of J W (set_base goto s b P) ≡ set (bases_of J W P) (suc x) (pos b)) × (checks_of J W (set_base goto s b P) ≡ checks_of J W P)
    × (marks_of W (set_base goto s b P) ≡ marks_of W P) × (places_of J (set_base goto s b P) ≡ places_of J P)
goto-arrays J W P s b x tied e h = (
  tab-set₀ (base_at J P) (base_at J Q) W (suc x) (pos b) at_here
      (λ d n. base_kept J P Q d tied (unfold set_base in refl) (unfold set_base in λ r y k. k) (λ r k. ba r (setb-at P goto s b action r)) (λ r y i k. bg d n r y i k (setb-at P goto s b goto r))),
  unfold set_base check_at in refl,
  unfold set_base in refl,
  unfold set_base in refl,
)
  where
    Q : St
    Q = set_base goto s b P

    own-q : Q.owner (suc x) ≡ att s
    own-q = unfold set_base in h

    at_here : base_at J Q (suc x) ≡ pos b
    at_here = unfold base_at in rw own-q (ap pos (setb-same P goto s b))

    ba : (r : ℕ) → SetB P goto s b action r → Q.base action r ≡ P.base action r
    ba r (this-row i j u) = absurd (differ i)
    ba r (other_row i u) = u

    bg : (d : ℕ) → (d ≡ suc x → ⊥) → (r y : ℕ) → d ≡ suc y → P.place r ≡ some y → SetB P goto s b goto r → Q.base goto r ≡ P.base goto r
    bg d n r y i k (this-row p q u) = let z : some y ≡ some x = sym k ∙ ap P.place q ∙ e in let w : y ≡ x = cc in absurd (n (omega arith))
    bg d n r y i k (other_row p u) = u
