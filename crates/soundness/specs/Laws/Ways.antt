-- The way into each state, edge by edge. Assumes nothing.
use Rattle.std.specs.Prelude.{◌≡◌, refl, ◌≢◌, ◌⊎◌, Bool, true, false, cond, List, ◌∷◌, ℕ, ◌<◌, ℤ, length, get_or, set, Option, Some, None, ◌==◌}
use Rattle.std.proofs.Common.{eq-eqb, sym, ap, ◌∙◌, subst, inr, arith, length-set, get_or-set_same, get_or-set_other, eqb-true}
use Rattle.std.proofs.lemmas.Bool.{eqb-false}
use Rattle.std.proofs.lemmas.List.{set-get_or}
use Rattle.std.proofs.Math.Decide.{ℕ_discrete}
use Rattle.tables.specs.declared.Sizes.{Sizes}
use Rattle.tables.specs.Entry.{goto_at}
use Rattle.soundness.specs.declared.ways.WayIn.{WayIn}
use Rattle.soundness.specs.declared.ways.WayIn.TheVariants.{Unreached, On, Several}
use Rattle.soundness.specs.Path.{along}
use Rattle.soundness.specs.Laws.Edges.{Tabled, Reached, Leads, leads-goto, goto-leads, goto-in, goto-not-0}

-- the way into t; none leads to a state outside
abbrev pub way_of : List WayIn → ℕ → WayIn
way_of ways t = get_or ways t Unreached

-- the way, with an edge on x more: x where all are on x, else several
abbrev pub joined_way : WayIn → ℕ → WayIn
joined_way Unreached x = On x
joined_way (On w) x = cond (w == x) (On w) Several
joined_way Several x = Several

-- an edge on x to this state joins the way into it
abbrev pub joined_to : List WayIn → ℕ → Option ℕ → List WayIn
joined_to ways x (Some t) = set ways t (joined_way (way_of ways t) x)
joined_to ways x None = ways

-- the edge of s on x, if there is one, joins the way into the state that it leads to
abbrev pub joined_at : Sizes → List ℤ → ℕ → ℕ → List WayIn → List WayIn
joined_at z table s x ways = joined_to ways x (goto_at z table s x)

-- an edge on the symbol on which all edges enter its state changes nothing
pub joined_same : (ways : List WayIn) (x t : ℕ) → way_of ways t ≡ On x → ways ≡ joined_to ways x (Some t)
joined_same ways x t e = sym (ap (set ways t) same ∙ set-get_or ways t Unreached)
  where
    same : joined_way (way_of ways t) x ≡ way_of ways t
    same = rw (e, eq-eqb x x refl) refl

-- on x where the old way was none or on x, else several
data Joined (v : WayIn) (x : ℕ) : WayIn → Type 0 where
  on_one : (v ≢ Unreached → v ≡ On x) → Joined v x (On x)
  on-several : v ≢ Unreached → v ≢ On x → Joined v x Several

joined_way_lem : (v : WayIn) (x : ℕ) → Joined v x (joined_way v x)
joined_way_lem Unreached x = on_one (λ n. absurd (n refl))
joined_way_lem (On w) x = by (w == x) refl
  where
    by : (b : Bool) → (w == x) ≡ b → Joined (On w) x (cond b (On w) Several)
    by true q = let e : w ≡ x = eqb-true _ _ q in rw e (on_one (λ n. refl))
    by false q = on-several (λ o. cc) (λ o. eqb-false w x q (cc))
joined_way_lem Several x = on-several (λ o. cc) (λ o. cc)

-- a reached state has an edge into t on another symbol than y
pub record Other (z : Sizes) (table : List ℤ) (t y : ℕ) : Type 0 where
  pub from : ℕ
  pub on : ℕ
  pub reach : Reached z table from
  pub edge : Leads z table from on t
  pub differs : on ≢ y

-- a way is into a state with a path; where it is not on y, the path of no edges or an edge on another symbol leads there
pub record Ways (z : Sizes) (states : ℕ) (table : List ℤ) (ways : List WayIn) : Type 0 where
  pub size : length ways ≡ 1024
  pub start : way_of ways 0 ≡ Several
  pub below : (t : ℕ) → way_of ways t ≢ Unreached → t < states
  pub reached : (t : ℕ) → way_of ways t ≢ Unreached → Reached z table t
  pub other : (t y : ℕ) → way_of ways t ≢ Unreached → way_of ways t ≢ On y → (t ≡ 0) ⊎ Other z table t y

-- the way into t tells of an edge on x
pub data Hit (ways : List WayIn) (x t : ℕ) : Type 0 where
  hit-one : way_of ways t ≡ On x → Hit ways x t
  hit-several : way_of ways t ≡ Several → Hit ways x t

-- what the ways tell of, they go on to tell of
pub record Grows (ways ways' : List WayIn) : Type 0 where
  pub stays : (x t : ℕ) → Hit ways x t → Hit ways' x t

pub grows_none : (ways : List WayIn) → Grows ways ways
grows_none ways = record { stays = λ x t h. h }

pub grows-more : {ways ways' ways'' : List WayIn} → Grows ways ways' → Grows ways' ways'' → Grows ways ways''
grows-more g f = record { stays = λ x t h. f.stays x t (g.stays x t h) }

-- ---- one edge more

-- the ways are kept, and the edge of s on x is told
pub record Step (z : Sizes) (states : ℕ) (table : List ℤ) (s x : ℕ) (ways ways' : List WayIn) : Type 0 where
  pub kept : Ways z states table ways'
  pub grows : Grows ways ways'
  pub told : (t : ℕ) → Leads z table s x t → Hit ways' x t

module _ {z : Sizes} {states : ℕ} {table : List ℤ} (k : Tabled z states table) {ways : List WayIn} (w : Ways z states table ways) {s x : ℕ} where
  module _ (h : s < states) (l : x < z.symbols) {to : ℕ} (n : goto_at z table s x ≡ Some to) where
    -- the way into the state where the edge leads, before it and with it
    abbrev old : WayIn
    old = way_of ways to

    abbrev new : WayIn
    new = joined_way old x

    inside : to < length ways
    inside = let b : to < states = (goto-in k h l n).0 in omega (arith, w.size, k.count.most)

    at-to : way_of (set ways to new) to ≡ new
    at-to = get_or-set_same ways to new Unreached inside

    at_other : (t : ℕ) → t ≢ to → way_of (set ways to new) t ≡ way_of ways t
    at_other t d = get_or-set_other ways to t new Unreached d

    -- what the new way is not, the edge or the old way tells
    tells : {v : WayIn} → Joined old x v → (y : ℕ) → v ≢ On y → Reached z table s → (to ≡ 0) ⊎ Other z table to y
    tells j y d r = by j (ℕ_discrete x y) d
      where
        by : {v : WayIn} → Joined old x v → Dec (x ≡ y) → v ≢ On y → (to ≡ 0) ⊎ Other z table to y
        by j (no o) d = inr (record { from = s; on = x; reach = r; edge = goto-leads k l n; differs = o })
        by (on_one f) (yes e) d = absurd (d (ap On e))
        by (on-several f g) (yes e) d = w.other to y f (λ q. g (q ∙ ap On (sym e)))

    joined-ways : Reached z table s → Ways z states table (set ways to new)
    joined-ways r =
        record {
          size = simp length-set w.size;
          start = at_other 0 (λ e. goto-not-0 z table s x n (sym e)) ∙ w.start;
          below = λ t d. below t (ℕ_discrete t to) d;
          reached = λ t d. reached t (ℕ_discrete t to) d;
          other = λ t y d o. other t (ℕ_discrete t to) y d o;
        }
      where
        below : (t : ℕ) → Dec (t ≡ to) → way_of (set ways to new) t ≢ Unreached → t < states
        below t (yes e) d = rw e (goto-in k h l n).0
        below t (no e) d = w.below t (λ q. d (at_other t e ∙ q))

        reached : (t : ℕ) → Dec (t ≡ to) → way_of (set ways to new) t ≢ Unreached → Reached z table t
        reached t (yes e) d = rw e (record { states = s ∷ r.states; symbols = x ∷ r.symbols; path = along (goto-leads k l n) r.path })
        reached t (no e) d = w.reached t (λ q. d (at_other t e ∙ q))

        other : (t : ℕ) → Dec (t ≡ to) → (y : ℕ) → way_of (set ways to new) t ≢ Unreached → way_of (set ways to new) t ≢ On y → (t ≡ 0) ⊎ Other z table t y
        other t (yes e) y d o = rw e (tells (joined_way_lem old x) y (λ q. o (rw e (at-to ∙ q))) r)
        other t (no e) y d o = w.other t y (λ q. d (at_other t e ∙ q)) (λ q. o (at_other t e ∙ q))

    joined-grows : Grows ways (set ways to new)
    joined-grows = record { stays = λ y t d. by y t d (ℕ_discrete t to) }
      where
        tell : {v : WayIn} (y : ℕ) → Joined old x v → way_of (set ways to new) to ≡ v → Hit ways y to → Hit (set ways to new) y to
        tell y (on-several f g) e d = hit-several e
        tell y (on_one f) e (hit-one q) =
            let o : On y ≡ On x = sym q ∙ f (λ u. let c : On y ≡ Unreached = sym q ∙ u in cc) in
            hit-one (e ∙ sym o)
        tell y (on_one f) e (hit-several q) =
            let o : Several ≡ On x = sym q ∙ f (λ u. let c : Several ≡ Unreached = sym q ∙ u in cc) in
            absurd (cc)

        by : (y t : ℕ) → Hit ways y t → Dec (t ≡ to) → Hit (set ways to new) y t
        by y t d (yes e) = rw e (tell y (joined_way_lem old x) at-to (rw e at d))
        by y t (hit-one q) (no e) = hit-one (at_other t e ∙ q)
        by y t (hit-several q) (no e) = hit-several (at_other t e ∙ q)

    joined-hit : Hit (set ways to new) x to
    joined-hit = by (joined_way_lem old x) at-to
      where
        by : {v : WayIn} → Joined old x v → way_of (set ways to new) to ≡ v → Hit (set ways to new) x to
        by (on_one f) e = hit-one e
        by (on-several f g) e = hit-several e

  pub step : Reached z table s → s < states → x < z.symbols → Step z states table s x ways (joined_at z table s x ways)
  step r h l = by (goto_at z table s x) refl
    where
      by : (o : Option ℕ) → goto_at z table s x ≡ o → Step z states table s x ways (joined_to ways x o)
      by None q = record { kept = w; grows = grows_none ways; told = λ t e. let c : Some t ≡ None = sym (leads-goto k e) ∙ q in absurd (cc) }
      by (Some to) q =
          record {
            kept = joined-ways h l q r;
            grows = joined-grows h l q;
            told = λ t e. let c : Some to ≡ Some t = sym q ∙ leads-goto k e in let d : to ≡ t = cc in subst (λ (a : ℕ). Hit (set ways to (joined_way (way_of ways to) x)) x a) d (joined-hit h l q);
          }
