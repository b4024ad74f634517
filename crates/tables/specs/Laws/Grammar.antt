-- What a rule is where GRAMMAR does not name it, and what a grammar is where GRAMMAR is not said. Assumes nothing.
use Rattle.std.proofs.lemmas.Bool.{eqb-false, not-true}
use Rattle.std.specs.Prelude.{◌≡◌, refl, ◌≢◌, Bool, true, false, not, List, ltb, eqb, length, get_or, take, drop, ℕ, zero, suc, ◌-◌, ◌≤◌, ◌<◌}
use Rattle.std.proofs.Common.{length-drop, length-take-le, arith, lt-ltb, ltb-true, ltb-false, eq-eqb, ne_eqb, eqb-true}
use Rattle.std.proofs.Math.ListN.{get_or-eq_default}
use Rattle.tables.specs.declared.Sizes.{Sizes}
use Rattle.tables.specs.Lists.{all, sum}
use Rattle.tables.specs.Grammar.{Grammar, grammar, right_at, inner, on_right, good_sides, good_rule}
use Rattle.tables.specs.Laws.Tests.{and-true}
use Rattle.tables.specs.Laws.Lists.{all-at, all_in, sum_more, sum-part}
use Rattle.tables.specs.Verdict.{Passed}

-- where the right sides are as long together as the lengths say, each is as long as its own
pub right-length : (lens rights : List ℕ) → sum lens ≡ length rights → (i : ℕ) → length (right_at lens rights i) ≡ get_or lens i 0
unfolding right_at
right-length lens rights e i = by (ltb i (length lens)) refl
  where
    by : (b : Bool) → ltb i (length lens) ≡ b → length (take (get_or lens i 0) (drop (sum (take i lens)) rights)) ≡ get_or lens i 0
    by true q =
        let h : i < length lens = ltb-true _ _ q in
        let l : length (drop (sum (take i lens)) rights) ≡ length rights - sum (take i lens) = length-drop (sum (take i lens)) rights in
        length-take-le _ _ (omega (arith, l, sum_more lens i h, sum-part lens (suc i)))
    by false q = let z : get_or lens i 0 ≡ 0 = get_or-eq_default lens 0 (ltb-false _ _ q) in rw z

-- ---- the tests and what they mean

-- a nonterminal other than T
pub record Inner (T M x : ℕ) : Type 0 where
  pub above : T < x
  pub below : x < M

-- a symbol that may stand on a right side
pub record OnRight (T M x : ℕ) : Type 0 where
  pub some : 1 ≤ x
  pub below : x < M
  pub no_start : x ≢ T

-- rule 1, and every other rule
pub record FirstOk (T M left : ℕ) (right : List ℕ) : Type 0 where
  pub start : left ≡ T
  pub one : length right ≡ 1
  pub goes_to : Inner T M (get_or right 0 0)

pub record LaterOk (T M left : ℕ) (right : List ℕ) : Type 0 where
  pub from : Inner T M left
  pub to : (i : ℕ) → i < length right → OnRight T M (get_or right i 0)

module _ (z : Sizes) where
  inner-ok : (x : ℕ) → inner z x ≡ true → Inner z.terminals z.symbols x
  unfolding inner
  inner-ok x e =
      let p : (ltb z.terminals x ≡ true) × (ltb x z.symbols ≡ true) = and-true (ltb z.terminals x) e in
      record { above = ltb-true _ _ p.0; below = ltb-true _ _ p.1 }

  ok-inner : {x : ℕ} → Inner z.terminals z.symbols x → inner z x ≡ true
  unfolding inner
  ok-inner k = rw (lt-ltb _ _ k.above) (lt-ltb _ _ k.below)

  right-ok : (x : ℕ) → on_right z x ≡ true → OnRight z.terminals z.symbols x
  unfolding on_right
  right-ok x e =
      let p : (ltb 0 x ≡ true) × _ = and-true (ltb 0 x) e in
      let q : (ltb x z.symbols ≡ true) × (not (eqb x z.terminals) ≡ true) = and-true (ltb x z.symbols) p.1 in
      record { some = ltb-true 0 x p.0; below = ltb-true _ _ q.0; no_start = eqb-false _ _ (not-true _ q.1) }

  ok-right : {x : ℕ} → OnRight z.terminals z.symbols x → on_right z x ≡ true
  unfolding on_right
  ok-right {x} k = rw (lt-ltb 0 x k.some, lt-ltb _ _ k.below, ne_eqb _ _ k.no_start)

  module _ (left : ℕ) (right : List ℕ) where
    pub first-ok : good_sides z true left right ≡ true → FirstOk z.terminals z.symbols left right
    unfolding good_sides
    first-ok e =
        let p : (eqb left z.terminals ≡ true) × _ = and-true (eqb left z.terminals) e in
        let q : (eqb (length right) 1 ≡ true) × _ = and-true (eqb (length right) 1) p.1 in
        record { start = eqb-true _ _ p.0; one = eqb-true _ _ q.0; goes_to = inner-ok _ q.1 }

    pub ok-first : FirstOk z.terminals z.symbols left right → good_sides z true left right ≡ true
    unfolding good_sides
    ok-first k = rw (eq-eqb _ _ k.start, eq-eqb _ _ k.one) (ok-inner k.goes_to)

    pub later-ok : good_sides z false left right ≡ true → LaterOk z.terminals z.symbols left right
    unfolding good_sides
    later-ok e =
        let p : (inner z left ≡ true) × (all (on_right z) right ≡ true) = and-true (inner z left) e in
        record { from = inner-ok left p.0; to = λ i h. right-ok _ (all-at (on_right z) right p.1 i h) }

    pub ok-later : LaterOk z.terminals z.symbols left right → good_sides z false left right ≡ true
    unfolding good_sides
    ok-later k = rw (ok-inner k.from) (all_in (on_right z) right (λ i h. ok-right (k.to i h)))

-- ---- a grammar whose rules are all good

pub record GrammarOk (g : Grammar) : Type 0 where
  pub first : FirstOk g.T g.M (g.left 1) (g.right 1)
  pub later : (r : ℕ) → 2 ≤ r → r ≤ g.G → LaterOk g.T g.M (g.left r) (g.right r)

module _ (z : Sizes) (left lens rights : List ℕ) where
  pub grammar-ok : 1 ≤ z.rules → Passed (good_rule z left lens rights) z.rules → GrammarOk (grammar z left lens rights)
  unfolding grammar good_rule
  grammar-ok h p =
      record {
        first = first-ok z _ _ (p 0 h);
        later = λ r l k. rest r l k;
      }
    where
      rest : (r : ℕ) → 2 ≤ r → r ≤ z.rules → LaterOk z.terminals z.symbols (get_or left (r - 1) 0) (right_at lens rights (r - 1))
      rest zero l k = absurd (omega arith)
      rest (suc zero) l k = absurd (omega arith)
      rest (suc (suc r)) l k =
          let e : suc (suc r) - 1 ≡ suc r = omega arith in
          rw e (later-ok z _ _ (rw (ne_eqb (suc r) 0 (λ q. omega arith)) at (p (suc r) k)))

  pub ok-grammar : GrammarOk (grammar z left lens rights) → Passed (good_rule z left lens rights) z.rules
  unfolding grammar good_rule
  ok-grammar k zero h = ok-first z _ _ k.first
  ok-grammar k (suc i) h =
      let e : suc (suc i) - 1 ≡ suc i = omega arith in
      rw (ne_eqb (suc i) 0 (λ q. omega arith)) (rw e at (ok-later z _ _ (k.later (suc (suc i)) (omega arith) h)))
