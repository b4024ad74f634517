-- The states from which the last symbols of the paths into a state begin: sets of flags, one symbol at a time from the right. Assumes nothing.
use Rattle.std.specs.Prelude.{◌≡◌, refl, ◌≢◌, Bool, true, false, not, cond, ◌&&◌, ◌||◌, List, [], ◌∷◌, reverse, ℕ, ◌+◌, ◌≤◌, ◌<◌, ℤ, length, get_or, set, replicate, Option, Some, None, is_some, ◌==◌}
use Rattle.std.proofs.Common.{sym, ap, ◌∙◌, ⊎_elim, arith, length-set, get_or-set_same, get_or-set_other, eqb-true}
use Rattle.std.proofs.lemmas.Bool.{eqb-false, not-true}
use Rattle.std.proofs.Math.Decide.{ℕ_discrete, dec_lt}
use Rattle.tables.specs.declared.Sizes.{Sizes}
use Rattle.tables.specs.Lists.{lowest}
use Rattle.tables.specs.Entry.{goto_at}
use Rattle.tables.specs.Laws.Tests.{clash, and-true}
use Rattle.tables.specs.Laws.Lowest.{at_least, nowhere-passed}
use Rattle.soundness.specs.declared.paths.Judged.{Judged}
use Rattle.soundness.specs.declared.paths.Paths.{Paths}
use Rattle.soundness.specs.declared.rule.Rule.{Rule}
use Rattle.soundness.specs.declared.ways.WayIn.{WayIn}
use Rattle.soundness.specs.declared.ways.WayIn.TheVariants.{Unreached, On, Several}
use Rattle.soundness.specs.Laws.Tail.{Failing}
use Rattle.soundness.specs.Laws.Column.{AllTails, Column, column-start, column-step, column-pass, column-end, column-short, column-other}
use Rattle.soundness.specs.Laws.Edges.{bare, Tabled, Reached, Leads, leads-goto, goto-leads}
use Rattle.soundness.specs.Laws.Ways.{way_of, Hit, hit-one, hit-several, Other}
use Rattle.soundness.specs.Laws.Walk.{is_unreached, unreached-false, not-unreached, Entered, same-all}
use Rattle.soundness.specs.Laws.Judged.{unsigned_of, judged-tabled}

-- n is in a set of flags
abbrev pub In : List Bool → ℕ → Type 0
In s n = get_or s n false ≡ true

-- it is on y
abbrev pub is_on : ℕ → WayIn → Bool
is_on y Unreached = false
is_on y (On x) = x == y
is_on y Several = false

-- t is not in the set, or all that enters it enters on y
abbrev pub entered_on : Paths → List Bool → ℕ → ℕ → Bool
entered_on p set y t = not (get_or set t false) || is_on y (way_of p.ways.now t)

-- an edge to this state leads into the set
abbrev pub goes_in : List Bool → Option ℕ → Bool
goes_in s (Some t) = get_or s t false
goes_in s None = false

-- s is reached and its edge on y leads into the set
abbrev pub led_in : Paths → List Bool → ℕ → ℕ → Bool
led_in p set y s = not (is_unreached (way_of p.ways.now s)) && goes_in set (goto_at p.judged.grammar.sizes p.judged.table.entries.now s y)

-- before the right side of rule 1 stands state 0, before that of another rule a state with a goto on its left side
abbrev pub stands_before : Judged → Rule → ℕ → Bool
stands_before j rule t = cond (rule.number == 1) (t == 0) (is_some (goto_at j.grammar.sizes j.table.entries.now t rule.left))

-- t is not in the set, or may stand before the right side
abbrev pub ends_well : Judged → List Bool → Rule → ℕ → Bool
ends_well j set rule t = not (get_or set t false) || stands_before j rule t

-- ---- a set that is worked out state by state

-- the numbers below i are in the set where f says so, and no others are
pub record Marked (f : ℕ → Bool) (i : ℕ) (s : List Bool) : Type 0 where
  pub size : length s ≡ 1024
  pub below : (p : ℕ) → p < i → get_or s p false ≡ f p
  pub above : (p : ℕ) → i ≤ p → get_or s p false ≡ false

pub marked-none : {f : ℕ → Bool} → Marked f 0 (replicate 1024 false)
marked-none = record { size = refl; below = λ p h. absurd (omega arith); above = λ p h. same-all false 1024 p }

pub marked_more : {f : ℕ → Bool} {i : ℕ} {s : List Bool} {b : Bool} → Marked f i s → i < 1024 → b ≡ f i → Marked f (i + 1) (set s i b)
marked_more {f} {i} {s} {b} m h e =
    record {
      size = simp length-set m.size;
      below = λ p l. by p l (dec_lt p i);
      above = λ p l. get_or-set_other s i p b false (λ q. omega arith) ∙ m.above p (omega arith);
    }
  where
    by : (p : ℕ) → p < i + 1 → Dec (p < i) → get_or (set s i b) p false ≡ f p
    by p l (yes q) = get_or-set_other s i p b false (λ o. omega arith) ∙ m.below p q
    by p l (no q) =
        let o : p ≡ i = omega arith in
        let n : i < length s = omega (arith, m.size) in
        rw o (get_or-set_same s i b false n ∙ e)

-- ---- the sets of states where the paths into s stand

-- t may stand before the right side
abbrev pub Before : Judged → Rule → ℕ → Type 0
Before j rule t = stands_before j rule t ≡ true

-- true: some path into s fails at the right side of the rule or at the state before it; false: every path passes
abbrev pub Answers : Judged → Rule → ℕ → Bool → Type 0
Answers j rule s true = Failing (bare j.grammar.sizes) (unsigned_of j) (Before j rule) (reverse rule.right.now) s
Answers j rule s false = AllTails (bare j.grammar.sizes) (unsigned_of j) (Before j rule) (reverse rule.right.now) s

-- the flags hold the states where the paths into s stand, when of the right side, from its end on, the symbols in `last` are still to be read
pub record Stand (j : Judged) (rule : Rule) (s : ℕ) (flags : List Bool) (last : List ℕ) : Type 0 where
  pub column : Column (bare j.grammar.sizes) (unsigned_of j) (Before j rule) (reverse rule.right.now) s (In flags) last

-- a test of the states in a set alone
test_in : (a : Bool) {b : Bool} → (not a || b) ≡ true → a ≡ true → b ≡ true
test_in true h e = h
test_in false h e = absurd (clash e refl)

test-out : (a : Bool) {b : Bool} → (not a || b) ≡ false → (a ≡ true) × (b ≡ false)
test-out true h = (refl, h)
test-out false h = absurd (clash refl h)

is-on : (y : ℕ) (v : WayIn) → is_on y v ≡ true → v ≡ On y
is-on y Unreached h = absurd (clash h refl)
is-on y (On x) h = ap On (eqb-true x y h)
is-on y Several h = absurd (clash h refl)

not-on : (y : ℕ) (v : WayIn) → is_on y v ≡ false → v ≢ On y
not-on y (On x) h e = eqb-false x y h (cc)
not-on y Unreached h e = cc
not-on y Several h e = cc

goes-in : (s : List Bool) (o : Option ℕ) → goes_in s o ≡ true → (t : ℕ) × (o ≡ Some t) × In s t
goes-in s (Some t) h = (t, refl, h)
goes-in s None h = absurd (clash h refl)

module _ (ps : Paths) where
  -- the judged table, its numbers and its entries
  abbrev j : Judged
  j = ps.judged

  abbrev z : Sizes
  z = j.grammar.sizes

  abbrev table : List ℤ
  table = j.table.entries.now

  k : Tabled z j.table.states table
  k = judged-tabled j

  module _ (w : Entered z j.table.states table ps.ways.now) {rule : Rule} {s : ℕ} where
    pub stand-begin : Reached z table s → Stand j rule s (set (replicate 1024 false) s true) (reverse rule.right.now)
    stand-begin r =
        let c : Column (bare z) (unsigned_of j) (Before j rule) (reverse rule.right.now) s (λ t. t ≡ s) (reverse rule.right.now) = column-start r in
        record {
          column = record {
            reachable = λ t i. c.reachable t (only t i (ℕ_discrete t s));
            passes = λ h. c.passes (λ t e. h t (rw e there));
            faults = λ t i f. c.faults t (only t i (ℕ_discrete t s)) f;
          };
        }
      where
        there : get_or (set (replicate 1024 false) s true) s false ≡ true
        there =
            let b : s < j.table.states = w.kept.below s (w.all s r) in
            get_or-set_same (replicate 1024 false) s true false (omega (arith, k.count.most))

        only : (t : ℕ) → In (set (replicate 1024 false) s true) t → Dec (t ≡ s) → t ≡ s
        only t i (yes e) = e
        only t i (no e) = absurd (clash i (get_or-set_other (replicate 1024 false) s t true false e ∙ same-all false 1024 t))

    module _ {flags : List Bool} where
      stand-below : {last : List ℕ} → Stand j rule s flags last → (t : ℕ) → In flags t → t < j.table.states
      stand-below c t i = w.kept.below t (w.all t (c.column.reachable t i))

      module _ {y : ℕ} {last : List ℕ} (c : Stand j rule s flags (y ∷ last)) where
        -- a state that is entered otherwise than on y: 0 is met too early, or an edge has another symbol
        stand-astray : {t : ℕ} → Some t ≡ lowest (entered_on ps flags y) j.table.states → Failing (bare z) (unsigned_of j) (Before j rule) (reverse rule.right.now) s
        stand-astray {t} e =
            let p : (get_or flags t false ≡ true) × (is_on y (way_of ps.ways.now t) ≡ false) =
            test-out (get_or flags t false) (at_least (entered_on ps flags y) j.table.states t (sym e)).2 in
            ⊎_elim
            (λ (o : t ≡ 0). column-short c.column (rw o at p.0))
            (λ (o : Other z table t y). column-other c.column o.from o.on t p.0 o.reach o.edge o.differs)
            (w.kept.other t y (w.all t (c.column.reachable t p.0)) (not-on y (way_of ps.ways.now t) p.1))

        stand-led : {next : List Bool} → y < z.symbols → None ≡ lowest (entered_on ps flags y) j.table.states → Marked (led_in ps flags y) j.table.states next
            → Stand j rule s next last
        stand-led {next} l e m = record { column = column-step c.column start (λ p x t i r d. only p x t i r d) (λ p i. from p i) }
          where
            on : (t : ℕ) → In flags t → way_of ps.ways.now t ≡ On y
            on t i =
                is-on y (way_of ps.ways.now t)
                (test_in (get_or flags t false) (nowhere-passed (entered_on ps flags y) j.table.states (sym e) t (stand-below c t i)) i)

            start : (t : ℕ) → In flags t → t ≢ 0
            start t i o = let q : Several ≡ On y = sym w.kept.start ∙ on 0 (rw o at i) in cc

            same : {x t : ℕ} → Hit ps.ways.now x t → way_of ps.ways.now t ≡ On y → x ≡ y
            same {x} {t} (hit-one q) o = let d : On x ≡ On y = sym q ∙ o in cc
            same {x} {t} (hit-several q) o = let d : Several ≡ On y = sym q ∙ o in cc

            only : (p x t : ℕ) → In flags t → Reached z table p → Leads z table p x t → (x ≡ y) × In next p
            only p x t i r d =
                let o : x ≡ y = same (w.told p x t r d) (on t i) in
                let n : way_of ps.ways.now p ≢ Unreached = w.all p r in
                let q : goto_at z table p y ≡ Some t = rw o at (leads-goto k d) in
                (o, m.below p (w.kept.below p n) ∙ rw (not-unreached (way_of ps.ways.now p) n, q) i)

            inside : (p : ℕ) → In next p → Dec (p < j.table.states) → p < j.table.states
            inside p i (yes h) = h
            inside p i (no h) = absurd (clash i (m.above p (let b : j.table.states ≤ p = omega arith in b)))

            from : (p : ℕ) → In next p → Reached z table p × ((t : ℕ) × In flags t × Leads z table p y t)
            from p i =
                let q : (not (is_unreached (way_of ps.ways.now p)) ≡ true) × (goes_in flags (goto_at z table p y) ≡ true) =
                and-true (not (is_unreached (way_of ps.ways.now p))) (sym (m.below p (inside p i (dec_lt p j.table.states))) ∙ i) in
                let g : (t : ℕ) × (goto_at z table p y ≡ Some t) × In flags t = goes-in flags (goto_at z table p y) q.1 in
                (w.kept.reached p (unreached-false (way_of ps.ways.now p) (not-true _ q.0)), (g.0, g.2, goto-leads k l g.1))

        -- where some state of the set is entered otherwise a path fails; else the set one symbol further to the left stands
        pub stand-fails : (o : Option ℕ) → is_some o ≡ true → o ≡ lowest (entered_on ps flags y) j.table.states → Answers j rule s true
        stand-fails (Some t) h e = stand-astray e
        stand-fails None h e = absurd (clash h refl)

        pub stand-step : {next : List Bool} (o : Option ℕ) → is_some o ≡ false → y < z.symbols → o ≡ lowest (entered_on ps flags y) j.table.states
            → Marked (led_in ps flags y) j.table.states next → Stand j rule s next last
        stand-step (Some t) h l e m = absurd (clash refl h)
        stand-step None h l e m = stand-led l e m

      module _ (c : Stand j rule s flags []) where
        stand-bad : {t : ℕ} → Some t ≡ lowest (ends_well j flags rule) j.table.states → Failing (bare z) (unsigned_of j) (Before j rule) (reverse rule.right.now) s
        stand-bad {t} e =
            let p : (get_or flags t false ≡ true) × (stands_before j rule t ≡ false) =
            test-out (get_or flags t false) (at_least (ends_well j flags rule) j.table.states t (sym e)).2 in
            column-end c.column t p.0 (λ h. clash h p.1)

        stand-good : None ≡ lowest (ends_well j flags rule) j.table.states → AllTails (bare z) (unsigned_of j) (Before j rule) (reverse rule.right.now) s
        stand-good e =
            column-pass c.column (λ t i.
            test_in (get_or flags t false)
            (nowhere-passed (ends_well j flags rule) j.table.states (sym e) t (stand-below c t i)) i)

        -- at the end it is told by whether a state of the set may not stand before the right side
        pub stand-end : (l : Option ℕ) → l ≡ lowest (ends_well j flags rule) j.table.states → Answers j rule s (is_some l)
        stand-end (Some t) e = stand-bad e
        stand-end None e = stand-good e
