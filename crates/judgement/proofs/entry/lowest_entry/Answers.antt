use Rattle.std.proofs.Math.Nat.{mul-add-mod_self_right, mod-eq_of_lt, mul-le-mul_right}
use Rattle.std.proofs.Common.{◌≡◌, Bool, true, false, List, ℕ, suc, ◌+◌, ◌*◌, ◌%◌, ◌≤◌, ◌<◌, ℤ, pos, length, get_or, sym, ◌∙◌, lt-ltb, le-ltb, arith}
use Rattle.number.specs.Number.{sign_of}
use Rattle.number.specs.declared.Signed.{Signed}
use Rattle.tables.specs.declared.Sizes.{Sizes}
use Rattle.std.specs.Prelude.{Some, None}
use Rattle.tables.specs.Entry.{good_action, good_goto, good_signed, good_entry, lowest_entry, good_at}
use Rattle.tables.specs.Laws.Lowest.{walk-begin, walk-on, walk-bad, walk_end}
use Rattle.tables.specs.Laws.Size.{numbers_fit_lem, table_fits_lem}
use Rattle.judgement.proofs.entry.lowest_entry.Invariants.{Passing}
use Rattle.judgement.proofs.entry.lowest_entry.Goals as goal

module _ (z : Sizes) (states : ℕ) (table : List ℤ) (s a : ℕ) (h : a < z.symbols) where
  column : (s * z.symbols + a) % z.symbols ≡ a
  column = mul-add-mod_self_right s z.symbols a ∙ mod-eq_of_lt h

  -- what the code's tests of the entry of state s and column a say
  module _ {e : Signed} {b : Bool} (p : e ≡ sign_of (get_or table (s * z.symbols + a) (pos 0))) where
    action-told : a < z.terminals → b ≡ good_action z states a e → good_at z states table (s * z.symbols + a) ≡ b
    unfolding good_entry good_signed
    action-told l q = rw (column, lt-ltb _ _ l) (sym (rw p at q))

    goto-told : z.terminals ≤ a → b ≡ good_goto z states a e → good_at z states table (s * z.symbols + a) ≡ b
    unfolding good_entry good_signed
    goto-told l q = rw (column, le-ltb _ _ l) (sym (rw p at q))

module _ (z : Sizes) (states : ℕ) (table : List ℤ) where
  begin : Passing z states table 0 0
  begin = let e : 0 ≡ 0 * z.symbols + 0 = omega arith in record { walk = rw e at (walk-begin {good = good_at z states table} {n = length table}) }

module _ {z : Sizes} {states : ℕ} {table : List ℤ} {s a : ℕ} where
  module _ (size : length table ≡ states * z.symbols) (h : s < states) (k : a < z.symbols) (inv : Passing z states table s a) where
    inside : s * z.symbols + a < length table
    inside = let l : suc s * z.symbols ≤ states * z.symbols = mul-le-mul_right z.symbols h in omega (arith, size)

    next : good_at z states table (s * z.symbols + a) ≡ true → Passing z states table s (a + 1)
    next g = let e : s * z.symbols + a + 1 ≡ s * z.symbols + (a + 1) = omega arith in record { walk = rw e at (walk-on inv.walk inside g) }

    bad : good_at z states table (s * z.symbols + a) ≡ false → Some (s * z.symbols + a) ≡ lowest_entry z states table
    unfolding lowest_entry
    bad g = walk-bad inv.walk inside g

module _ {z : Sizes} {states : ℕ} {table : List ℤ} {s : ℕ} where
  row_end : {a : ℕ} → a ≡ z.symbols → Passing z states table s a → Passing z states table (s + 1) 0
  row_end e inv = let p : s * z.symbols + z.symbols ≡ (s + 1) * z.symbols + 0 = omega arith in record { walk = rw p at (rw e at inv.walk) }

  none : length table ≡ states * z.symbols → states ≡ s → Passing z states table s 0 → None ≡ lowest_entry z states table
  unfolding lowest_entry
  none size e inv = walk_end inv.walk (omega (arith, rw e at size))

pub loop-s-init : goal.loop-s-init
loop-s-init c = begin _ _ _

pub loop-a-init : goal.loop-a-init
loop-a-init c = c.loop-s.invariant

pub returns-then-not-action_good : goal.returns-then-not-action_good
returns-then-not-action_good c =
    let n = numbers_fit_lem c.args.z c.requires.numbers in
    let k : c.loop-a.a < c.args.z.symbols = omega (arith, n.symbols.least, c.loop-a-test.true) in
    bad (table_fits_lem _ _ _ c.requires.table) c.loop-s-test.true k c.loop-a.invariant (action-told _ _ _ _ _ k c.at_i32.ensures c.loop-a-test.true c.action_good.ensures ∙ c.if-not-action_good.true)

pub loop-a-preserved : goal.loop-a-preserved
loop-a-preserved c =
    let n = numbers_fit_lem c.args.z c.requires.numbers in
    let k : c.loop-a.a < c.args.z.symbols = omega (arith, n.symbols.least, c.loop-a-test.true) in
    next (table_fits_lem _ _ _ c.requires.table) c.loop-s-test.true k c.loop-a.invariant (action-told _ _ _ _ _ k c.at_i32.ensures c.loop-a-test.true c.action_good.ensures ∙ c.if-not-action_good.false)

pub loop-a-2-init : goal.loop-a-2-init
loop-a-2-init c =
    let e : c.loop-a.a ≡ c.args.z.terminals = omega (arith, c.loop-a-test.false, c.loop-a.auto.a-end) in
    (omega arith, rw e at c.loop-a.invariant)

pub returns-then-not-goto_good : goal.returns-then-not-goto_good
returns-then-not-goto_good c =
    let i = c.loop-a-2.invariant in
    bad (table_fits_lem _ _ _ c.requires.table) c.loop-s-test.true c.loop-a-2-test.true i.1 (goto-told _ _ _ _ _ c.loop-a-2-test.true c.at_i32-in-loop-a-2.ensures i.0 c.goto_good.ensures ∙ c.if-not-goto_good.true)

pub loop-a-2-preserved : goal.loop-a-2-preserved
loop-a-2-preserved c =
    let i = c.loop-a-2.invariant in
    let g = goto-told _ _ _ _ _ c.loop-a-2-test.true c.at_i32-in-loop-a-2.ensures i.0 c.goto_good.ensures ∙ c.if-not-goto_good.false in
    (omega (arith, i.0), next (table_fits_lem _ _ _ c.requires.table) c.loop-s-test.true c.loop-a-2-test.true i.1 g)

pub loop-s-preserved : goal.loop-s-preserved
loop-s-preserved c =
    let n = numbers_fit_lem c.args.z c.requires.numbers in
    row_end (let e : c.loop-a-2.a ≡ c.args.z.symbols = omega (arith, n.symbols.least, c.loop-a-2-test.false, c.loop-a-2.auto.a-end) in e) c.loop-a-2.invariant.1

pub returns : goal.returns
returns c =
    none (table_fits_lem _ _ _ c.requires.table) (let e : c.args.table.states ≡ c.loop-s.s = omega (arith, c.loop-s-test.false, c.loop-s.auto.s-end) in e) c.loop-s.invariant
