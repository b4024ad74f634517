-- The row step and the home step of placement. Assumes nothing.
use Rattle.std.specs.Prelude.{◌≡◌, refl, ◌≢◌, Bool, true, false, ℕ, suc, ◌+◌, ◌*◌, ◌≤◌, ◌<◌}
use Rattle.std.proofs.Common.{sym, ap, ◌∙◌, subst, arith}
use Rattle.std.proofs.Math.Option.{Option, none, some}
use Rattle.std.proofs.Math.Decide.{dec_lt}
use Rattle.cells.specs.Read.{Kind}
use Rattle.packing.specs.Job.{blank, shift, Job}
use Rattle.packing.specs.Rows.{row, rep, Plan, search, share, skip, plan}
use Rattle.packing.specs.Board.{own, ent, St, set_base, settle, home_if, home_step, used, try_of, try_row, row_by, row_step}
use Rattle.packing.specs.Laws.Rows.{rep-idem, row-kind, rep-row, plan-search, Shares, plan-share}
use Rattle.packing.specs.Laws.Grow.{Grow, grow-refl, grow-trans, SetB, this-row, other_row, setb-at, setb-same, grow-setb}
use Rattle.packing.specs.Laws.Sound.{Sound, sound-setb}
use Rattle.packing.specs.Laws.Tied.{Tied, tie-places, Good, settle-ok, good-refl}
use Rattle.packing.specs.Laws.Fill.{Stored, stored-grow, base-at, fill-ok, first-ok, used-ok}

-- the row of s is on the board
pub record RowIn (J : Job) (P : St) (κ : Kind) (s : ℕ) : Type 0 where
  pub some-base : 1 ≤ P.base κ s
  pub stored : (a : ℕ) → a < J.syms → Stored J P κ s a

pub rowin-grow : (J : Job) (P Q : St) (κ : Kind) (s : ℕ) → Grow P Q → RowIn J P κ s → RowIn J Q κ s
rowin-grow J P Q κ s g h =
    record {
      some-base = rw (g.bases κ s h.some-base) h.some-base;
      stored = λ a l. stored-grow J P Q κ s a g h.some-base (h.stored a l);
    }

-- no base yet for the rows of kind κ from n on
abbrev pub Late : St → Kind → ℕ → Type 0
Late P κ n = (r : ℕ) → n ≤ r → P.base κ r ≡ 0

-- what the row step for s has done
pub record RowDone (J : Job) (P Q : St) (κ : Kind) (s : ℕ) : Type 0 where
  pub grow : Grow P Q
  pub sound : Sound J Q
  pub ties : Tied J P → Tied J Q
  pub late : Late Q κ (suc s)
  pub other : (k : Kind) (n : ℕ) → (k ≡ κ → ⊥) → Late P k n → Late Q k n
  pub done : (plan J κ s ≡ skip → ⊥) → RowIn J Q κ s

base-eq : (Q : St) (f : Kind → ℕ → ℕ) (k : Kind) (r n : ℕ) → Q.base ≡ f → f k r ≡ n → Q.base k r ≡ n
base-eq Q f k r n e h = ap (λ (g : Kind → ℕ → ℕ). g k r) e ∙ h

-- a base is set for the row of s, and nothing else is changed but by what f does
set-done : (J : Job) (κ : Kind) (s b : ℕ) (P Q : St) → P.base κ s ≡ 0 → Late P κ s → Good J (set_base κ s b P) Q → RowIn J Q κ s → RowDone J P Q κ s
set-done J κ s b P Q zero-here late g i =
    record {
      grow = grow-trans (grow-setb P κ s b zero-here) g.grow;
      sound = g.sound;
      ties = λ t. g.ties (λ c. unfold set_base in tie-places J P (set_base κ s b P) c (P.owner c) (λ r x e. e) (t c));
      late = λ r x. base-eq Q (set_base κ s b P).base κ r 0 g.bases (after κ r (λ z. omega (arith, z.1)) (late r (omega arith)));
      other = λ q n ne ok r x. base-eq Q (set_base κ s b P).base q r 0 g.bases (after q r (λ z. ne z.0) (ok r x));
      done = λ pl. i;
    }
  where
    after : (q : Kind) (r : ℕ) → ((q ≡ κ) × (r ≡ s) → ⊥) → P.base q r ≡ 0 → (set_base κ s b P).base q r ≡ 0
    after q r ne z = of (setb-at P κ s b q r)
      where
        of : SetB P κ s b q r → (set_base κ s b P).base q r ≡ 0
        of (this-row i j u) = absurd (ne (i, j))
        of (other_row i u) = u ∙ z

try_ok : (J : Job) (κ : Kind) (s b : ℕ) (P Q : St) → s < J.states → rep J κ s ≡ s → 1 ≤ b → Sound J P → Late P κ s → try_row J κ s P b ≡ some Q → RowDone J P Q κ s
unfolding try_row
try_ok J κ s b P Q sl re l S late h = go (used P κ b J.states) refl h
  where
    zero-here : P.base κ s ≡ 0
    zero-here = late s (omega arith)

    go : (t : Bool) → used P κ b J.states ≡ t → try_of t J κ s b P ≡ some Q → RowDone J P Q κ s
    go true e k = let z : ◌≡◌ {A = ℕ} 0 1 = cc in absurd (omega arith)
    go false e k =
        set-done J κ s b P Q zero-here late f.0
        (record { some-base = rw (base-at J (set_base κ s b P) Q κ s b f.0 (setb-same P κ s b)) l; stored = f.1 })
      where
        new : (r : ℕ) → P.base κ r ≡ b → ⊥
        new r i = at (dec_lt r J.states)
          where
            at : Dec (r < J.states) → ⊥
            at (yes y) = used-ok P κ b J.states e r y i
            at (no y) = let z = late r (omega arith) in omega arith

        f : Good J (set_base κ s b P) Q × ((d : ℕ) → d < J.syms → Stored J Q κ s d)
        f = fill-ok J κ s b J.syms (set_base κ s b P) Q re (setb-same P κ s b) l (sound-setb J P κ s b zero-here (λ r i. absurd (new r i)) S) k

share-ok : (J : Job) (κ : Kind) (s r : ℕ) (P : St) → Sound J P → Late P κ s → Shares J κ s r → RowIn J P κ r → RowDone J P (set_base κ s (P.base κ r) P) κ s
share-ok J κ s r P S late sh i =
    set-done J κ s b P Q zero-here late (good-refl J Q (sound-setb J P κ s b zero-here same S))
    (record { some-base = rw at-s i.some-base; stored = λ a x. record { owns = owns a x; goes = λ t w. unfold set_base in (i.stored a x).goes t (rows a (λ z. no-blank t (sym w ∙ z)) ∙ w) } })
  where
    b : ℕ
    b = P.base κ r

    Q : St
    Q = set_base κ s b P

    at-s : Q.base κ s ≡ b
    at-s = setb-same P κ s b

    zero-here : P.base κ s ≡ 0
    zero-here = late s (omega arith)

    no-blank : (t : ℕ) → shift t ≡ blank → ⊥
    no-blank t e = let z : ◌≡◌ {A = ℕ} 0 1 = cc in omega arith

    rep-r : rep J κ r ≡ rep J κ s
    rep-r = rw sh.is (rep-idem J κ s)

    same : (q : ℕ) → P.base κ q ≡ b → rep J κ q ≡ rep J κ s
    same q e = sym (S.inj κ r q i.some-base (sym e)) ∙ rep-r

    rows : (a : ℕ) → row J κ s a ≢ blank → row J κ r a ≡ row J κ s a
    rows a w = rep-row J κ r s a rep-r (row-kind J κ s a w)

    owns : (a : ℕ) → a < J.syms → row J κ s a ≢ blank → Q.owner (Q.base κ s + 2 * a) ≡ ent κ (rep J κ s) a
    owns a x w = rw (at-s, ← rep-r) (unfold set_base in (i.stored a x).owns (λ z. w (sym (rows a w) ∙ z)))

pub row_ok : (J : Job) (fuel : ℕ) (κ : Kind) (s : ℕ) (P Q : St) → s < J.states → Sound J P → Late P κ s
    → ((r : ℕ) → r < s → plan J κ r ≡ search → RowIn J P κ r) → row_step J fuel κ s P ≡ some Q → RowDone J P Q κ s
unfolding row_step
row_ok J fuel κ s P Q sl S late rows h = go (plan J κ s) refl h
  where
    go : (p : Plan) → plan J κ s ≡ p → row_by p J fuel κ s P ≡ some Q → RowDone J P Q κ s
    go search e k =
        let i = first-ok (try_row J κ s P) fuel 1 (try_row J κ s P 1) Q refl k in
        try_ok J κ s i.at P Q sl (plan-search J κ s e) i.from S late i.found
    go (share r) e k =
        let sh = plan-share J κ s r e in
        let out : set_base κ s (P.base κ r) P ≡ Q = cc in
        subst (λ (R : St). RowDone J P R κ s) out (share-ok J κ s r P S late sh (rows r sh.earlier sh.searched))
    go skip e k =
        let out : P ≡ Q = cc in
        subst (λ (R : St). RowDone J P R κ s) out
        (record { grow = grow-refl P; sound = S; ties = λ t. t; late = λ r x. late r (omega arith); other = λ q n ne ok. ok; done = λ pl. absurd (pl e) })

pub home-ok : (J : Job) (fuel s : ℕ) (P Q : St) → Sound J P → home_step fuel s P ≡ some Q → Good J P Q × ((x : ℕ) × (Q.place s ≡ some x))
unfolding home_step
home-ok J fuel s P Q S h = go (P.place s) refl h
  where
    go : (o : Option ℕ) → P.place s ≡ o → home_if o fuel s P ≡ some Q → Good J P Q × ((x : ℕ) × (Q.place s ≡ some x))
    go (some x) e k =
        let out : P ≡ Q = cc in subst (λ (R : St). Good J P R × ((x : ℕ) × (R.place s ≡ some x))) out (good-refl J P S, (x, e))
    go none e k =
        let i = first-ok (λ x. settle (own s) s x P) fuel 1 (settle (own s) s 1 P) Q refl k in
        let p = settle-ok J (own s) s i.at P Q tt refl e S i.found in
        (p.0, (i.at, p.2))
