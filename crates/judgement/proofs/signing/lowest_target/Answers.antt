use Rattle.std.proofs.lemmas.Bool.{eqb-false}
use Rattle.std.proofs.Math.Bool.{or-true, or-false}
use Rattle.std.proofs.Common.{rules, ◌≡◌, refl, Bool, true, false, ◌||◌, List, ℕ, zero, suc, ◌+◌, ◌≤◌, ◌<◌, eqb, length, get_or, set, take, replicate, sym, ◌∙◌, add-one, arith, length-set, get_or-set_same, get_or-set_other, lt-ltb, le-ltb, eq-eqb, ne_eqb, eqb-true}
use Rattle.std.specs.Prelude.{Some, None}
use Rattle.tables.specs.Lists.{among}
use Rattle.tables.specs.Signing.{good_target, lowest_target}
use Rattle.tables.specs.Laws.Lists.{among_none, among-more}
use Rattle.tables.specs.Laws.Lowest.{walk-begin, walk-on, walk-bad, walk_end}
use Rattle.judgement.proofs.signing.lowest_target.Invariants.{Passing}
use Rattle.judgement.proofs.signing.lowest_target.Goals as goal
use Rattle.judgement.proofs.signing.lowest_target.Goals.{then-i-eq0-via-then-i-eq0, then-i-eq0-via-else-i-eq0+then-states-t, then-i-eq0-via-else-i-eq0+else-states-t+then-seen-t}

unmarked : (n t : ℕ) → get_or (replicate n false) t false ≡ false
unmarked zero t = refl
unmarked (suc n) zero = refl
unmarked (suc n) (suc t) = unmarked n t

module _ {states : ℕ} {sgoto : List ℕ} where
  begin : Passing states sgoto (replicate 1024 false) 0
  begin = record { walk = walk-begin; size = refl; marks = λ t h. unmarked 1024 t ∙ sym (among_none t sgoto) }

  module _ {seen : List Bool} {i : ℕ} (inv : Passing states sgoto seen i) (h : i < length sgoto) where
    bad : good_target states sgoto i ≡ false → Some i ≡ lowest_target states sgoto
    unfolding lowest_target
    bad g = walk-bad inv.walk h g

    -- an unsigned nonterminal marks nothing
    none-signed : get_or sgoto i 0 ≡ 0 → Passing states sgoto seen (i + 1)
    unfolding good_target
    none-signed e =
        record {
          walk = walk-on inv.walk h (rw e);
          size = inv.size;
          marks = λ t p. inv.marks t p ∙ sym (rw (add-one i, among-more t sgoto i h, e, ne_eqb t 0 (λ q. omega arith)) (or-false _));
        }

    module _ (signs : get_or sgoto i 0 ≡ 0 → ⊥) where
      start-signed : i ≡ 0 → good_target states sgoto i ≡ false
      unfolding good_target
      start-signed e = rw (ne_eqb _ _ signs, eq-eqb _ _ e)

      module _ (later : i ≡ 0 → ⊥) where
        no-state : states ≤ get_or sgoto i 0 → good_target states sgoto i ≡ false
        unfolding good_target
        no-state l = rw (ne_eqb _ _ signs, ne_eqb _ _ later, le-ltb _ _ l)

        module _ (state : get_or sgoto i 0 < states) where
          twice : get_or seen (get_or sgoto i 0) false ≡ true → good_target states sgoto i ≡ false
          unfolding good_target
          twice m =
              let p : 0 < get_or sgoto i 0 = omega arith in
              rw (ne_eqb _ _ signs, ne_eqb _ _ later, lt-ltb _ _ state, ← inv.marks (get_or sgoto i 0) p, m)

          once : get_or seen (get_or sgoto i 0) false ≡ false → good_target states sgoto i ≡ true
          unfolding good_target
          once m =
              let p : 0 < get_or sgoto i 0 = omega arith in
              rw (ne_eqb _ _ signs, ne_eqb _ _ later, lt-ltb _ _ state, ← inv.marks (get_or sgoto i 0) p, m)

          mark-by : (t : ℕ) → 0 < t → get_or sgoto i 0 < length seen → (b : Bool) → eqb t (get_or sgoto i 0) ≡ b
              → get_or (set seen (get_or sgoto i 0) true) t false ≡ (among t (take i sgoto) || b)
          mark-by t p l true q =
              rw (eqb-true t (get_or sgoto i 0) q) (get_or-set_same seen (get_or sgoto i 0) true false l) ∙ sym (or-true (among t (take i sgoto)))
          mark-by t p l false q =
              get_or-set_other seen (get_or sgoto i 0) t true false (eqb-false _ _ q) ∙ inv.marks t p ∙ sym (or-false (among t (take i sgoto)))

          marked : states ≤ 1024 → get_or seen (get_or sgoto i 0) false ≡ false → Passing states sgoto (set seen (get_or sgoto i 0) true) (i + 1)
          marked k m =
              record {
                walk = walk-on inv.walk h (once m);
                size = simp length-set inv.size;
                marks = λ t p. mark-by t p (omega (arith, inv.size)) (eqb t (get_or sgoto i 0)) refl ∙ sym (rw (add-one i) (among-more t sgoto i h));
              }

  done : {seen : List Bool} {i : ℕ} → Passing states sgoto seen i → length sgoto ≤ i → None ≡ lowest_target states sgoto
  unfolding lowest_target
  done inv h = walk_end inv.walk h

pub loop-i-init : goal.loop-i-init
loop-i-init c = begin

pub returns-then-i-eq0-clause-lowest : goal.returns-then-i-eq0-clause-lowest
returns-then-i-eq0-clause-lowest c =
    let w = c.loop-i.invariant in
    let h = c.loop-i-test.true in
    let s = c.if-t-eq0.false in
    elim c.then-i-eq0.branch [
      | then-i-eq0-via-then-i-eq0 d ↦ bad w h (start-signed w h s d.if-i-eq0.true)
      | then-i-eq0-via-else-i-eq0+then-states-t d ↦ bad w h (no-state w h s d.if-i-eq0.false d.if-states-t.true)
      | then-i-eq0-via-else-i-eq0+else-states-t+then-seen-t d ↦ bad w h (twice w h s d.if-i-eq0.false d.if-states-t.false d.if-seen-t.true)
    ]

pub loop-i-preserved-then-t-eq0 : goal.loop-i-preserved-then-t-eq0
loop-i-preserved-then-t-eq0 c = none-signed c.loop-i.invariant c.loop-i-test.true c.if-t-eq0.true

pub loop-i-preserved : goal.loop-i-preserved
loop-i-preserved c =
    let w = c.loop-i.invariant in
    marked w c.loop-i-test.true c.if-t-eq0.false c.if-i-eq0.false c.if-states-t.false c.requires c.if-seen-t.false

pub returns-clause-lowest : goal.returns-clause-lowest
returns-clause-lowest c = done c.loop-i.invariant (search rules)
