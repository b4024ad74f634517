-- The ways, row by row, until every reached state's row is walked. Assumes nothing.
use Rattle.std.specs.Prelude.{◌≡◌, refl, ◌≢◌, Bool, true, false, ◌||◌, List, [], ◌∷◌, ℕ, zero, suc, ◌+◌, ◌≤◌, ◌<◌, ℤ, length, get_or, set, replicate, Some, None}
use Rattle.std.proofs.Common.{sym, ap, ◌∙◌, inl, arith, length-set, get_or-set_other}
use Rattle.std.proofs.Math.Decide.{ℕ_discrete, dec_lt}
use Rattle.tables.specs.declared.Sizes.{Sizes}
use Rattle.tables.specs.Lists.{lowest}
use Rattle.tables.specs.Laws.Tests.{clash}
use Rattle.tables.specs.Laws.Lowest.{at_least, nowhere-passed}
use Rattle.soundness.specs.declared.ways.WayIn.{WayIn}
use Rattle.soundness.specs.declared.ways.WayIn.TheVariants.{Unreached, On, Several}
use Rattle.soundness.specs.Path.{here}
use Rattle.soundness.specs.Laws.Column.{closed_all}
use Rattle.soundness.specs.Laws.Edges.{Tabled, Reached, Leads, leads-below, leads-in}
use Rattle.soundness.specs.Laws.Ways.{way_of, Ways, Hit, hit-one, hit-several, Grows, grows_none, grows-more, joined_at, Step, step}

-- ---- one row

-- the ways after the edges of row s on the symbols below x, which they tell
pub record Row (z : Sizes) (states : ℕ) (table : List ℤ) (s x : ℕ) (ways ways' : List WayIn) : Type 0 where
  pub kept : Ways z states table ways'
  pub grows : Grows ways ways'
  pub told : (a t : ℕ) → a < x → Leads z table s a t → Hit ways' a t

-- all edges of row s are told
abbrev pub Walked : Sizes → ℕ → List ℤ → ℕ → List WayIn → List WayIn → Type 0
Walked z states table s ways ways' = Row z states table s z.symbols ways ways'

module _ {z : Sizes} {states : ℕ} {table : List ℤ} (k : Tabled z states table) {s : ℕ} (h : s < states) where
  -- column 0 has no edge
  pub row-begin : {ways : List WayIn} → Ways z states table ways → Row z states table s 1 ways ways
  row-begin {ways} w =
      record {
        kept = w;
        grows = grows_none ways;
        told = λ a t l e. absurd ((leads-in k h e).1 (omega arith));
      }

  pub row_more : {x : ℕ} {ways ways' : List WayIn} → Reached z table s → x < z.symbols → Row z states table s x ways ways'
      → Row z states table s (x + 1) ways (joined_at z table s x ways')
  row_more {x} {ways} {ways'} r l w =
      let d : Step z states table s x ways' (joined_at z table s x ways') = step k w.kept r h l in
      record {
        kept = d.kept;
        grows = grows-more w.grows d.grows;
        told = λ a t b e. by d a t e b (dec_lt a x);
      }
    where
      by : Step z states table s x ways' (joined_at z table s x ways') → (a t : ℕ) → Leads z table s a t → a < x + 1 → Dec (a < x) → Hit (joined_at z table s x ways') a t
      by d a t e b (yes q) = d.grows.stays a t (w.told a t q e)
      by d a t e b (no q) = let o : a ≡ x = omega arith in rw o (d.told t (rw o at e))

  pub row-end : {x : ℕ} {ways ways' : List WayIn} → z.symbols ≤ x → Row z states table s x ways ways' → Walked z states table s ways ways'
  row-end l w = record { kept = w.kept; grows = w.grows; told = λ a t b e. w.told a t (omega arith) e }

-- ---- all rows

-- no path leads there
abbrev pub is_unreached : WayIn → Bool
is_unreached Unreached = true
is_unreached (On x) = false
is_unreached Several = false

-- no path leads to s so far, or its row is walked
abbrev pub is_done : List WayIn → List Bool → ℕ → Bool
is_done ways walked s = is_unreached (way_of ways s) || get_or walked s false

-- how many flags are not set
unfoldable pub unset : List Bool → ℕ
unset [] = 0
unset (true ∷ l) = unset l
unset (false ∷ l) = suc (unset l)

-- setting one more leaves fewer
pub unset-less : (l : List Bool) (i : ℕ) → i < length l → get_or l i false ≡ false → unset (set l i true) < unset l
unfolding unset
unset-less [] i h e = absurd (omega arith)
unset-less (true ∷ l) zero h e = absurd (clash refl e)
unset-less (false ∷ l) zero h e = omega arith
unset-less (true ∷ l) (suc i) h e = unset-less l i (omega arith) e
unset-less (false ∷ l) (suc i) h e = omega (arith, unset-less l i (omega arith) e)

-- a list of one value holds it everywhere
pub same-all : {A : Type 0} (a : A) (n t : ℕ) → get_or (replicate n a) t a ≡ a
same-all a zero t = refl
same-all a (suc n) zero = refl
same-all a (suc n) (suc t) = same-all a n t

-- a way that is not told to be none is none or not, by the test
pub unreached-true : (v : WayIn) → is_unreached v ≡ true → v ≡ Unreached
unreached-true Unreached h = refl
unreached-true (On x) h = absurd (clash h refl)
unreached-true Several h = absurd (clash h refl)

pub unreached-false : (v : WayIn) → is_unreached v ≡ false → v ≢ Unreached
unreached-false v h e = clash (ap is_unreached e) h

pub not-unreached : (v : WayIn) → v ≢ Unreached → is_unreached v ≡ false
not-unreached Unreached n = absurd (n refl)
not-unreached (On x) n = refl
not-unreached Several n = refl

-- the edges of the walked states are told
pub record Walking (z : Sizes) (states : ℕ) (table : List ℤ) (ways : List WayIn) (walked : List Bool) : Type 0 where
  pub kept : Ways z states table ways
  pub size : length walked ≡ 1024
  pub told : (p x t : ℕ) → p < states → get_or walked p false ≡ true → Leads z table p x t → Hit ways x t

-- the ways are those of all edges from reached states
pub record Entered (z : Sizes) (states : ℕ) (table : List ℤ) (ways : List WayIn) : Type 0 where
  pub kept : Ways z states table ways
  pub all : (t : ℕ) → Reached z table t → way_of ways t ≢ Unreached
  pub told : (p x t : ℕ) → Reached z table p → Leads z table p x t → Hit ways x t

module _ {z : Sizes} {states : ℕ} {table : List ℤ} (k : Tabled z states table) where
  -- the path of no edges leads to state 0
  first-ways : Ways z states table (set (replicate 1024 Unreached) 0 Several)
  first-ways =
      record {
        size = refl;
        start = refl;
        below = λ t n. let e : t ≡ 0 = only t n (ℕ_discrete t 0) in omega (arith, k.count.least);
        reached = λ t n. let e : t ≡ 0 = only t n (ℕ_discrete t 0) in rw e (record { states = []; symbols = []; path = here });
        other = λ t y n d. inl (only t n (ℕ_discrete t 0));
      }
    where
      only : (t : ℕ) → way_of (set (replicate 1024 Unreached) 0 Several) t ≢ Unreached → Dec (t ≡ 0) → t ≡ 0
      only t n (yes e) = e
      only t n (no e) = absurd (n (get_or-set_other (replicate 1024 Unreached) 0 t Several Unreached e ∙ same-all Unreached 1024 t))

  pub walking-begin : Walking z states table (set (replicate 1024 Unreached) 0 Several) (replicate 1024 false)
  walking-begin = record { kept = first-ways; size = refl; told = λ p x t h b e. absurd (clash b (same-all false 1024 p)) }

  module _ {ways : List WayIn} {walked : List Bool} (w : Walking z states table ways walked) where
    -- a state that is not done
    pub open-below : {s : ℕ} → Some s ≡ lowest (is_done ways walked) states → s < states
    open-below {s} e = (at_least (is_done ways walked) states s (sym e)).0

    parts : (a b : Bool) → (a || b) ≡ false → (a ≡ false) × (b ≡ false)
    parts true b e = absurd (clash refl e)
    parts false b e = (refl, e)

    open-parts : {s : ℕ} → Some s ≡ lowest (is_done ways walked) states → (way_of ways s ≢ Unreached) × (get_or walked s false ≡ false)
    open-parts {s} e =
        let p : (is_unreached (way_of ways s) ≡ false) × (get_or walked s false ≡ false) = parts (is_unreached (way_of ways s)) (get_or walked s false) (at_least (is_done ways walked) states s (sym e)).2 in
        (unreached-false (way_of ways s) p.0, p.1)

    pub open-reached : {s : ℕ} → Some s ≡ lowest (is_done ways walked) states → Reached z table s
    open-reached {s} e = w.kept.reached s (open-parts e).0

    in-flags : {s : ℕ} → s < states → s < length walked
    in-flags h = omega (arith, w.size, k.count.most)

    pub walking-less : {s : ℕ} → Some s ≡ lowest (is_done ways walked) states → unset (set walked s true) < unset walked
    walking-less {s} e = unset-less walked s (in-flags (open-below e)) (open-parts e).1

    pub walking-more : {s : ℕ} {ways' : List WayIn} → Walked z states table s ways ways' → Walking z states table ways' (set walked s true)
    walking-more {s} {ways'} d =
        record {
          kept = d.kept;
          size = simp length-set w.size;
          told = λ p x t h b e. by p x t h b e (ℕ_discrete p s);
        }
      where
        by : (p x t : ℕ) → p < states → get_or (set walked s true) p false ≡ true → Leads z table p x t → Dec (p ≡ s) → Hit ways' x t
        by p x t h b e (yes q) = d.told x t (leads-below k e) (rw q at e)
        by p x t h b e (no q) =
            d.grows.stays x t (w.told p x t h (sym (get_or-set_other walked s p true false q) ∙ b) e)

    -- every state with a way in is walked: these are all the reached ones
    pub walking-end : None ≡ lowest (is_done ways walked) states → Entered z states table ways
    walking-end e = record { kept = w.kept; all = all; told = λ p x t r d. told p x t (all p r) d }
      where
        done : (p : ℕ) → way_of ways p ≢ Unreached → get_or walked p false ≡ true
        done p n =
            rw (not-unreached (way_of ways p) n) at (nowhere-passed (is_done ways walked) states (sym e) p (w.kept.below p n))

        told : (p x t : ℕ) → way_of ways p ≢ Unreached → Leads z table p x t → Hit ways x t
        told p x t n d = w.told p x t (w.kept.below p n) (done p n) d

        some : {x t : ℕ} → Hit ways x t → way_of ways t ≢ Unreached
        some {x} {t} (hit-one q) o = let c : On x ≡ Unreached = sym q ∙ o in cc
        some {x} {t} (hit-several q) o = let c : Several ≡ Unreached = sym q ∙ o in cc

        all : (t : ℕ) → Reached z table t → way_of ways t ≢ Unreached
        all t r =
            closed_all {R = λ s. way_of ways s ≢ Unreached} (λ o. let c : Several ≡ Unreached = sym w.kept.start ∙ o in cc)
            (λ p x t n d. some (told p x t n d))
            r.path
