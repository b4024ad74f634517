-- What is worked out of the paths into a state, column by column, is so of every path. Assumes nothing.
use Rattle.std.specs.Prelude.{◌≡◌, Bool, not, ◌&&◌, ℕ, refl, true, false, List, [], ◌∷◌, map, eqb}
use Rattle.std.proofs.Common.{sym, ◌∙◌, subst, eqb-true}
use mathlib.Core.List.{Memᴰ}
use Rattle.std.proofs.lemmas.Bool.{eqb-false}
use Rattle.tables.specs.Lists.{all, among}
use Rattle.tables.specs.Grammar.{Grammar}
use Rattle.tables.specs.Laws.Tests.{clash}
use Rattle.tables.specs.Laws.Members.{among-from, among_in, all_of, not-all}
use Rattle.reads.specs.Reads.{Reads}
use Rattle.soundness.specs.Path.{Edge, Reach}
use Rattle.soundness.specs.Check.{Arc, arc, into, before, spelling, spells}
use Rattle.soundness.specs.Laws.Tail.{Failing}
use Rattle.soundness.specs.Laws.Column.{AllTails, Column, column-step, column-pass, column-end, column-short, column-other}
use Rattle.soundness.specs.Laws.Lists.{those-from, those-in}
use Rattle.soundness.specs.Laws.Reached.{Live}

-- the answer true means that every path keeps to it, the answer false that one does not
abbrev pub Says : Grammar → Reads → (ℕ → Type 0) → List ℕ → ℕ → Bool → Type 0
Says g u F ys s true = AllTails g u F ys s
Says g u F ys s false = Failing g u F ys s

module _ {g : Grammar} {u : Reads} {es : List Arc} (live : Live g u es) (F : ℕ → Type 0) (test : ℕ → Bool)
    (passes : (p : ℕ) → test p ≡ true → F p) (fails : (p : ℕ) → test p ≡ false → F p → ⊥) (ys : List ℕ) (s : ℕ) where
  at-end : (S : List ℕ) → Column g u F ys s (λ t. Memᴰ t S) [] → (b : Bool) → all test S ≡ b → Says g u F ys s b
  at-end S c true q = column-pass c (λ t m. passes t (all_of test S q t m))
  at-end S c false q =
      let w : (t : ℕ) × Memᴰ t S × (test t ≡ false) = not-all test S q in
      column-end c w.0 w.1 (fails w.0 w.2)

  module _ (y : ℕ) (left S : List ℕ) (c : Column g u F ys s (λ t. Memᴰ t S) (y ∷ left)) where
    -- the symbols of the edges into S, and the states that they come from
    abbrev symbols : List ℕ
    symbols = map (λ (e : Arc). e.symbol) (into S es)

    abbrev sources : List ℕ
    sources = map (λ (e : Arc). e.from) (into S es)

    into-in : (p x t : ℕ) → Memᴰ t S → Reach g u p → Edge g u p x t → Memᴰ (arc p x t) (into S es)
    unfolding into
    into-in p x t m r e = those-in (λ (a : Arc). among a.to S) es (arc p x t) (live.every p x t r e) (among_in t S m)

    into-from : (a : Arc) → Memᴰ a (into S es) → Memᴰ a.to S × Edge g u a.from a.symbol a.to × Reach g u a.from
    unfolding into
    into-from a m =
        let w : Memᴰ a es × (among a.to S ≡ true) = those-from (λ (a : Arc). among a.to S) es a m in
        (among-from a.to S w.1, (live.only a w.0).0, (live.only a w.0).1)

    -- one column further to the left
    stepped : among 0 S ≡ false → all (λ x. eqb x y) symbols ≡ true → Column g u F ys s (λ p. Memᴰ p sources) left
    stepped z k =
        column-step c
        (λ t m e. clash (among_in 0 S (subst (λ (n : ℕ). Memᴰ n S) e m)) z)
        (λ p x t m r e.
        let a : Memᴰ (arc p x t) (into S es) = into-in p x t m r e in
        (eqb-true x y (all_of (λ x. eqb x y) symbols k x (mathlib.Core.List.Memᴰ.map (λ (e : Arc). e.symbol) a)), mathlib.Core.List.Memᴰ.map (λ (e : Arc). e.from) a))
        (λ p m.
        let w : (a : Arc) × Memᴰ a (into S es) × (a.from ≡ p) = mathlib.Core.List.Memᴰ.of_map (λ (e : Arc). e.from) (into S es) m in
        let o : Memᴰ w.0.to S × Edge g u w.0.from w.0.symbol w.0.to × Reach g u w.0.from = into-from w.0 w.1 in
        let x : w.0.symbol ≡ y = eqb-true _ _ (all_of (λ x. eqb x y) symbols k w.0.symbol (mathlib.Core.List.Memᴰ.map (λ (e : Arc). e.symbol) w.1)) in
        (rw w.2 at o.2, (w.0.to, o.0, rw (w.2, x) at o.1)))

    -- an edge with another symbol
    other : all (λ x. eqb x y) symbols ≡ false → Failing g u F ys s
    other k =
        let w : (x : ℕ) × Memᴰ x symbols × (eqb x y ≡ false) = not-all (λ x. eqb x y) symbols k in
        let a : (a : Arc) × Memᴰ a (into S es) × (a.symbol ≡ w.0) = mathlib.Core.List.Memᴰ.of_map (λ (e : Arc). e.symbol) (into S es) w.1 in
        let o : Memᴰ a.0.to S × Edge g u a.0.from a.0.symbol a.0.to × Reach g u a.0.from = into-from a.0 a.1 in
        column-other c a.0.from a.0.symbol a.0.to o.0 o.2 o.1 (λ e. eqb-false _ _ w.2 (sym a.2 ∙ e))

    further : (Column g u F ys s (λ p. Memᴰ p sources) left → Says g u F ys s (spells es test left sources))
        → (z : Bool) → among 0 S ≡ z → (k : Bool) → all (λ x. eqb x y) symbols ≡ k → Says g u F ys s (before (spells es test left) (into S es) (not z && k))
    unfolding before
    further next true p k q = column-short c (among-from 0 S p)
    further next false p true q = next (stepped p q)
    further next false p false q = other q

  spells-from : (left S : List ℕ) → Column g u F ys s (λ t. Memᴰ t S) left → Says g u F ys s (spells es test left S)
  unfolding spells spelling
  spells-from [] S c = at-end S c (all test S) refl
  spells-from (y ∷ left) S c =
      further y left S c (spells-from left (sources y left S c)) (among 0 S) refl (all (λ x. eqb x y) (symbols y left S c)) refl

  pub spells-says : Reach g u s → Says g u F ys s (spells es test ys (s ∷ []))
  spells-says r =
      spells-from ys (s ∷ [])
      (record {
        reachable = λ t m. rw (mathlib.Core.List.Memᴰ.eq_of_singleton m) r;
        passes = λ h. h s (mathlib.Core.List.Memᴰ.head refl);
        faults = λ t m f. subst (λ (n : ℕ). Failing g u F ys n) (mathlib.Core.List.Memᴰ.eq_of_singleton m) f;
      })
