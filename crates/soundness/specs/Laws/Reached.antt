-- The arcs are the edges, and the reached states are those with a path. Assumes nothing.
use Rattle.std.specs.Prelude.{◌≡◌, ◌⊎◌, Bool, ◌&&◌, ltb, eqb, refl, true, false, not, List, [], ◌∷◌, map, ℕ, zero, suc, ◌≤◌, ◌<◌, length}
use Rattle.std.proofs.Common.{ap, sym, arith, ltb-true, ltb-false, lt-ltb, le-ltb, eqb-true, eq-eqb, subst, inl, inr, ⊎_elim}
use mathlib.Core.List.{Memᴰ}
use Rattle.tables.specs.Lists.{among}
use Rattle.tables.specs.Grammar.{Grammar}
use Rattle.tables.specs.Laws.Tests.{and-true}
use Rattle.tables.specs.Laws.Members.{among-from, among_in}
use Rattle.reads.specs.Reads.{Act, shift, reduce, accept, blank, malformed, Go, goes, nowhere, broken, Reads}
use Rattle.soundness.specs.Path.{Edge, by-shift, by-goto, here, along, Reach}
use Rattle.soundness.specs.Lists.{those, collect}
use Rattle.soundness.specs.Check.{Arc, arc, shifts_to, goes_to, leads_to, arcs_from, arcs, grown, grow, reached}
use Rattle.soundness.specs.Laws.Lists.{those-from, those-in, those-fewer, collect-in, collect-from}
use Rattle.soundness.specs.Laws.Column.{closed_all}

-- ---- the arcs

shifts-from : {t : ℕ} (a : Act) → Memᴰ t (shifts_to a) → a ≡ shift t
shifts-from (reduce _) m = elim m [ ]
shifts-from accept m = elim m [ ]
shifts-from blank m = elim m [ ]
shifts-from malformed m = elim m [ ]
shifts-from (shift s) m = ap shift (sym (mathlib.Core.List.Memᴰ.eq_of_singleton m))

goes-from : {t : ℕ} (x : Go) → Memᴰ t (goes_to x) → x ≡ goes t
goes-from nowhere m = elim m [ ]
goes-from broken m = elim m [ ]
goes-from (goes s) m = ap goes (sym (mathlib.Core.List.Memᴰ.eq_of_singleton m))

module _ (g : Grammar) (u : Reads) where
  leads-in : {p x t : ℕ} → Edge g u p x t → Memᴰ t (leads_to u p x (ltb x g.T))
  unfolding leads_to
  leads-in {x = x} (by-shift h e) = rw (lt-ltb x g.T h, e) (mathlib.Core.List.Memᴰ.head refl)
  leads-in {x = x} (by-goto l h e) = rw (le-ltb x g.T l, e) (mathlib.Core.List.Memᴰ.head refl)

  leads-from : {p x t : ℕ} → x < g.M → (b : Bool) → ltb x g.T ≡ b → Memᴰ t (leads_to u p x b) → Edge g u p x t
  unfolding leads_to
  leads-from {p} {x} h true q m = by-shift (ltb-true _ _ q) (shifts-from (u.act p x) m)
  leads-from {p} {x} h false q m = by-goto (ltb-false _ _ q) h (goes-from (u.go p x) m)

  edge-below : {p x t : ℕ} → g.T ≤ g.M → Edge g u p x t → x < g.M
  edge-below l (by-shift h e) = omega arith
  edge-below l (by-goto k h e) = h

  -- each edge is among the arcs
  arcs-in : (states p x t : ℕ) → g.T ≤ g.M → p < states → Edge g u p x t → Memᴰ (arc p x t) (arcs g u states)
  unfolding arcs arcs_from
  arcs-in states p x t l h e =
      collect-in (arcs_from g u) states p h
      (collect-in (λ y. map (arc p y) (leads_to u p y (ltb y g.T))) g.M x (edge-below l e) (mathlib.Core.List.Memᴰ.map (arc p x) (leads-in e)))

  -- and each arc is an edge
  arcs-from : (states : ℕ) (e : Arc) → Memᴰ e (arcs g u states) → Edge g u e.from e.symbol e.to
  unfolding arcs arcs_from
  arcs-from states e m =
      let r : (p : ℕ) × (p < states) × Memᴰ e (arcs_from g u p) = collect-from (arcs_from g u) states m in
      let c : (x : ℕ) × (x < g.M) × Memᴰ e (map (arc r.0 x) (leads_to u r.0 x (ltb x g.T))) =
      collect-from (λ x. map (arc r.0 x) (leads_to u r.0 x (ltb x g.T))) g.M r.2 in
      let w : (t : ℕ) × Memᴰ t (leads_to u r.0 c.0 (ltb c.0 g.T)) × (arc r.0 c.0 t ≡ e) =
      mathlib.Core.List.Memᴰ.of_map (arc r.0 c.0) (leads_to u r.0 c.0 (ltb c.0 g.T)) c.2 in
      subst (λ (a : Arc). Edge g u a.from a.symbol a.to) w.2 (leads-from c.1 (ltb c.0 g.T) refl w.1)

-- ---- growing

-- the states rs have a path each, and no edge leads out of them
record Closed (g : Grammar) (u : Reads) (es : List Arc) (rs : List ℕ) : Type 0 where
  start-in : Memᴰ 0 rs
  paths : (s : ℕ) → Memᴰ s rs → Reach g u s
  ends-in : (e : Arc) → Memᴰ e es → Memᴰ e.from rs → Memᴰ e.to rs

none_in : (us : List ℕ) (s : ℕ) → length us ≤ 0 → Memᴰ s us → ⊥
none_in [] s h m = elim m [ ]
none_in (x ∷ us) s h m = omega arith

-- t is added, or what is left still has s
without : (s t : ℕ) (rs us : List ℕ) → Memᴰ s us → Memᴰ s (t ∷ rs) ⊎ Memᴰ s (those (λ s. not (eqb s t)) us)
without s t rs us m = by (eqb s t) refl
  where
    by : (b : Bool) → eqb s t ≡ b → Memᴰ s (t ∷ rs) ⊎ Memᴰ s (those (λ s. not (eqb s t)) us)
    by true q = inl (mathlib.Core.List.Memᴰ.head (eqb-true s t q))
    by false q = inr (those-in (λ s. not (eqb s t)) us s m (ap not q))

module _ {g : Grammar} {u : Reads} {es : List Arc} (edges : (e : Arc) → Memᴰ e es → Edge g u e.from e.symbol e.to) where
  -- the arcs that lead on
  abbrev onward : List ℕ → List ℕ → Arc → Bool
  onward rs us e = among e.from rs && among e.to us

  onward-in : (rs us : List ℕ) (e : Arc) → Memᴰ e.from rs → Memᴰ e.to us → onward rs us e ≡ true
  onward-in rs us e m k = rw (among_in e.from rs m) (among_in e.to us k)

  grow-closed : (n : ℕ) (rs us : List ℕ) → Memᴰ 0 rs → ((s : ℕ) → Memᴰ s rs → Reach g u s)
      → ((e : Arc) → Memᴰ e es → Memᴰ e.to rs ⊎ Memᴰ e.to us) → length us ≤ n → Closed g u es (grow es n rs us)
  unfolding grow grown
  grow-closed zero rs us z paths cover h =
      record {
        start-in = z;
        paths = paths;
        ends-in = λ e m s. ⊎_elim (λ k. k) (λ k. absurd (none_in us e.to h k)) (cover e m);
      }
  grow-closed (suc n) rs us z paths cover h = by (those (onward rs us) es) refl (grow-closed n)
    where
      by : (fs : List Arc) → those (onward rs us) es ≡ fs
          → ((rs us : List ℕ) → Memᴰ 0 rs → ((s : ℕ) → Memᴰ s rs → Reach g u s)
          → ((e : Arc) → Memᴰ e es → Memᴰ e.to rs ⊎ Memᴰ e.to us) → length us ≤ n → Closed g u es (grow es n rs us))
          → Closed g u es (grown (grow es n) rs us fs)
      by [] q next =
          record {
            start-in = z;
            paths = paths;
            ends-in = λ e m s.
                ⊎_elim (λ k. k)
                (λ k. let w : Memᴰ e [] = rw q at (those-in (onward rs us) es e m (onward-in rs us e s k)) in elim w [ ])
                (cover e m);
          }
      by (a ∷ fs) q next =
          let w : Memᴰ a es × (onward rs us a ≡ true) = those-from (onward rs us) es a (rw q (mathlib.Core.List.Memᴰ.head refl)) in
          let o : (among a.from rs ≡ true) × (among a.to us ≡ true) = and-true (among a.from rs) w.1 in
          let r : Reach g u a.from = paths a.from (among-from a.from rs o.0) in
          let there : Reach g u a.to = record { states = a.from ∷ r.states; symbols = a.symbol ∷ r.symbols; path = along (edges a w.0) r.path } in
          next (a.to ∷ rs) (those (λ s. not (eqb s a.to)) us) (mathlib.Core.List.Memᴰ.tail z)
          (λ s m. ⊎_elim (λ e. rw e there) (paths s) (mathlib.Core.List.Memᴰ.cases_cons m))
          (λ e m. ⊎_elim (λ k. inl (mathlib.Core.List.Memᴰ.tail k)) (λ k. without e.to a.to rs us k) (cover e m))
          (omega (arith, those-fewer (λ s. not (eqb s a.to)) us a.to (among-from a.to us o.1) (ap not (eq-eqb a.to a.to refl))))

-- ---- the reached states

-- what a table of this many states keeps to
pub record Bounded (g : Grammar) (u : Reads) (states : ℕ) : Type 0 where
  pub start-in : 0 < states
  pub symbols-in : g.T ≤ g.M
  pub edges-in : (p x t : ℕ) → Edge g u p x t → t < states

length-below : (n : ℕ) → length (collect (λ s. s ∷ []) n) ≡ n
unfolding collect
length-below zero = refl
length-below (suc n) = ap suc (length-below n)

-- the edges from reached states, as a list
pub record Live (g : Grammar) (u : Reads) (es : List Arc) : Type 0 where
  pub every : (p x t : ℕ) → Reach g u p → Edge g u p x t → Memᴰ (arc p x t) es
  pub only : (e : Arc) → Memᴰ e es → Edge g u e.from e.symbol e.to × Reach g u e.from

module _ {g : Grammar} {u : Reads} {states : ℕ} (b : Bounded g u states) where
  pub reach-below : {s : ℕ} → Reach g u s → s < states
  reach-below r = closed_all b.start-in (λ p x t h e. b.edges-in p x t e) r.path

  reached-closed : Closed g u (arcs g u states) (reached (arcs g u states) states)
  unfolding reached
  reached-closed =
      grow-closed (arcs-from g u states) states (0 ∷ []) (collect (λ s. s ∷ []) states)
      (mathlib.Core.List.Memᴰ.head refl)
      (λ s m. let e : s ≡ 0 = mathlib.Core.List.Memᴰ.eq_of_singleton m in rw e (record { states = []; symbols = []; path = here }))
      (λ e m. inr (collect-in (λ s. s ∷ []) states e.to (b.edges-in e.from e.symbol e.to (arcs-from g u states e m)) (mathlib.Core.List.Memᴰ.head refl)))
      (omega (arith, length-below states))

  pub reached-path : {s : ℕ} → Memᴰ s (reached (arcs g u states) states) → Reach g u s
  reached-path {s} m = reached-closed.paths s m

  pub path-reached : {s : ℕ} → Reach g u s → Memᴰ s (reached (arcs g u states) states)
  path-reached {s} r =
      (closed_all {R = λ s. (s < states) × Memᴰ s (reached (arcs g u states) states)} (b.start-in, reached-closed.start-in)
      (λ p x t k e. (b.edges-in p x t e, reached-closed.ends-in (arc p x t) (arcs-in g u states p x t b.symbols-in k.0 e) k.1))
      r.path).1

  pub live : Live g u (those (λ e. among e.from (reached (arcs g u states) states)) (arcs g u states))
  live =
      record {
        every = λ p x t r e.
            those-in from-reached (arcs g u states) (arc p x t) (arcs-in g u states p x t b.symbols-in (reach-below r) e)
            (among_in p (reached (arcs g u states) states) (path-reached r));
        only = λ e m.
            let w : Memᴰ e (arcs g u states) × (from-reached e ≡ true) = those-from from-reached (arcs g u states) e m in
            (arcs-from g u states e w.0, reached-path (among-from e.from (reached (arcs g u states) states) w.1));
      }
    where
      from-reached : Arc → Bool
      from-reached e = among e.from (reached (arcs g u states) states)
