-- What an entry is where ENTRY does not name it, and what a table is where ENTRY is not said. Assumes nothing.
use Rattle.std.proofs.lemmas.Bool.{eqb-false, not-true}
use Rattle.std.specs.Prelude.{◌≡◌, ◌≢◌, Bool, not, List, eqb, ℤ, pos, negsuc, length, get_or, ℕ, zero, suc, ◌+◌, ◌*◌, ◌%◌, ◌/◌, ◌≤◌, ◌<◌}
use Rattle.std.proofs.Math.Path.{refl}
use Rattle.std.proofs.Common.{◌∙◌, div-lt_iff_lt-mul, arith, lt-ltb, le-ltb, ltb-true, ltb-false, le-leb, leb-true, eq-eqb, ne_eqb, eqb-true}
use Rattle.std.proofs.Math.Bool.{true, false}
use Rattle.std.proofs.Math.Nat.{mul-add-mod_self_right, mod-eq_of_lt, mod-lt, mul-le-mul_right, div-add-mod'}
use Rattle.std.proofs.Math.Dec.{ltb, eqb-suc-zero}
use Rattle.tables.specs.declared.Sizes.{Sizes}
use Rattle.tables.specs.Entry.{entry_at, good_signed, good_entry, good_at}
use Rattle.tables.specs.Laws.Tests.{clash, and-true}
use Rattle.tables.specs.Verdict.{Passed}

-- a terminal column: blank, a shift, accept, a reduction
abbrev pub TermOk : Sizes → ℕ → ℕ → ℤ → Type 0
TermOk z states a (pos zero) = Unit {0}
TermOk z states a (pos (suc t)) = (suc t < states) × (a ≢ 0)
TermOk z states a (negsuc zero) = a ≡ 0
TermOk z states a (negsuc (suc r)) = suc (suc r) ≤ z.rules

-- a nonterminal column: blank, or a state
abbrev pub NontermOk : Sizes → ℕ → ℕ → ℤ → Type 0
NontermOk z states a (pos zero) = Unit {0}
NontermOk z states a (pos (suc t)) = (suc t < states) × (a ≢ z.terminals)
NontermOk z states a (negsuc r) = ⊥

module _ (z : Sizes) (states a : ℕ) where
  pub term-ok : (e : ℤ) → a < z.terminals → good_entry z states a e ≡ true → TermOk z states a e
  unfolding good_entry good_signed
  term-ok (pos zero) h g = tt
  term-ok (pos (suc t)) h g =
      let p : (not (eqb a 0) ≡ true) × (ltb (suc t) states ≡ true) = and-true (not (eqb a 0)) (rw (lt-ltb _ _ h, eqb-suc-zero t) at g) in
      (ltb-true _ _ p.1, eqb-false _ _ (not-true _ p.0))
  term-ok (negsuc zero) h g = eqb-true _ _ (rw (lt-ltb _ _ h) at g)
  term-ok (negsuc (suc r)) h g = leb-true _ _ (rw (lt-ltb _ _ h, ne_eqb (suc (suc r)) 1 (λ q. omega arith)) at g)

  pub ok-term : (e : ℤ) → a < z.terminals → TermOk z states a e → good_entry z states a e ≡ true
  unfolding good_entry good_signed
  ok-term (pos zero) h k = rw (lt-ltb _ _ h)
  ok-term (pos (suc t)) h k = rw (lt-ltb _ _ h, eqb-suc-zero t, ne_eqb _ _ k.1) (lt-ltb _ _ k.0)
  ok-term (negsuc zero) h k = rw (lt-ltb _ _ h) (eq-eqb _ _ k)
  ok-term (negsuc (suc r)) h k = rw (lt-ltb _ _ h, ne_eqb (suc (suc r)) 1 (λ q. omega arith)) (le-leb _ _ k)

  pub nonterm-ok : (e : ℤ) → z.terminals ≤ a → good_entry z states a e ≡ true → NontermOk z states a e
  unfolding good_entry good_signed
  nonterm-ok (pos zero) h g = tt
  nonterm-ok (pos (suc t)) h g =
      let p : (not (eqb a z.terminals) ≡ true) × (ltb (suc t) states ≡ true) =
      and-true (not (eqb a z.terminals)) (rw (le-ltb _ _ h, eqb-suc-zero t) at g) in
      (ltb-true _ _ p.1, eqb-false _ _ (not-true _ p.0))
  nonterm-ok (negsuc r) h g = clash (rw (le-ltb _ _ h) at g) refl

  pub ok-nonterm : (e : ℤ) → z.terminals ≤ a → NontermOk z states a e → good_entry z states a e ≡ true
  unfolding good_entry good_signed
  ok-nonterm (pos zero) h k = rw (le-ltb _ _ h)
  ok-nonterm (pos (suc t)) h k = rw (le-ltb _ _ h, eqb-suc-zero t, ne_eqb _ _ k.1) (lt-ltb _ _ k.0)
  ok-nonterm (negsuc r) h k = absurd k

-- ---- a table whose entries are all good

pub record TableOk (z : Sizes) (states : ℕ) (table : List ℤ) : Type 0 where
  pub terms : (s a : ℕ) → s < states → a < z.terminals → TermOk z states a (entry_at z table s a)
  pub nonterms : (s a : ℕ) → s < states → z.terminals ≤ a → a < z.symbols → NontermOk z states a (entry_at z table s a)

module _ (z : Sizes) (states : ℕ) (table : List ℤ) (size : length table ≡ states * z.symbols) where
  -- the entry of state s and symbol a is the one at index s * M + a
  entry-good : Passed (good_at z states table) (length table) → (s a : ℕ) → s < states → a < z.symbols → good_entry z states a (entry_at z table s a) ≡ true
  unfolding entry_at
  entry-good p s a h k =
      let l : suc s * z.symbols ≤ states * z.symbols = mul-le-mul_right z.symbols h in
      let c : (s * z.symbols + a) % z.symbols ≡ a = mul-add-mod_self_right s z.symbols a ∙ mod-eq_of_lt k in
      rw c at (p (s * z.symbols + a) (omega arith))

  pub table-ok : z.terminals ≤ z.symbols → Passed (good_at z states table) (length table) → TableOk z states table
  table-ok m p =
      record {
        terms = λ s a h k. term-ok z states a _ k (entry-good p s a h (omega arith));
        nonterms = λ s a h k l. nonterm-ok z states a _ k (entry-good p s a h l);
      }

  pub ok-table : 0 < z.symbols → TableOk z states table → Passed (good_at z states table) (length table)
  unfolding entry_at
  ok-table m k i h =
      let a : i % z.symbols < z.symbols = mod-lt i m in
      let d : i / z.symbols * z.symbols + i % z.symbols ≡ i = div-add-mod' i z.symbols in
      rw (← d) (at (i / z.symbols) (i % z.symbols) ((div-lt_iff_lt-mul m).1 (omega arith)) a (ltb (i % z.symbols) z.terminals) refl)
    where
      at : (s a : ℕ) → s < states → a < z.symbols → (b : Bool) → ltb a z.terminals ≡ b → good_entry z states ((s * z.symbols + a) % z.symbols) (get_or table (s * z.symbols + a) (pos 0)) ≡ true
      at s a l n true q = rw (mul-add-mod_self_right s z.symbols a ∙ mod-eq_of_lt n) (ok-term z states a _ (ltb-true _ _ q) (k.terms s a l (ltb-true _ _ q)))
      at s a l n false q = rw (mul-add-mod_self_right s z.symbols a ∙ mod-eq_of_lt n) (ok-nonterm z states a _ (ltb-false _ _ q) (k.nonterms s a l (ltb-false _ _ q) n))
