-- What the numbers and lengths are where SIZE is not said. Assumes nothing.
use Rattle.std.proofs.Common.{leb-true, eqb-true, le-leb, eq-eqb}
use Rattle.std.specs.Prelude.{◌≡◌, true, List, ℕ, ◌+◌, ◌-◌, ◌*◌, ◌≤◌, ◌<◌, eqb, ℤ, length, get_or}
use Rattle.std.proofs.Math.Dec.{leb}
use Rattle.tables.specs.declared.Sizes.{Sizes}
use Rattle.tables.specs.Lists.{all, sum}
use Rattle.tables.specs.Size.{is_within, numbers_fit, states_fit, rights_fit, grammar_fits, table_fits, signing_fits, all_fit}
use Rattle.tables.specs.Laws.Tests.{and-true}
use Rattle.tables.specs.Laws.Lists.{all-at}

pub record Within (low high n : ℕ) : Type 0 where
  pub least : low ≤ n
  pub most : n ≤ high

pub within : (low high n : ℕ) → is_within low high n ≡ true → Within low high n
within low high n e =
    let p : (leb low n ≡ true) × (leb n high ≡ true) = and-true (leb low n) e in
    record { least = leb-true low n p.0; most = leb-true n high p.1 }

is_within_lem : {low high n : ℕ} → Within low high n → is_within low high n ≡ true
is_within_lem {low} {high} {n} w = rw (le-leb low n w.least, le-leb n high w.most)

-- the bounds of T, M and G
pub record NumbersFit (z : Sizes) : Type 0 where
  pub terminals : Within 2 256 z.terminals
  pub symbols : Within (z.terminals + 2) 512 z.symbols
  pub rules : Within 1 1024 z.rules

pub numbers_fit_lem : (z : Sizes) → numbers_fit z ≡ true → NumbersFit z
unfolding numbers_fit
numbers_fit_lem z e =
    let p : (is_within 2 256 z.terminals ≡ true) × _ = and-true (is_within 2 256 z.terminals) e in
    let q : (is_within (z.terminals + 2) 512 z.symbols ≡ true) × _ = and-true (is_within (z.terminals + 2) 512 z.symbols) p.1 in
    record { terminals = within _ _ _ p.0; symbols = within _ _ _ q.0; rules = within _ _ _ q.1 }

pub fit-numbers : (z : Sizes) → NumbersFit z → numbers_fit z ≡ true
unfolding numbers_fit
fit-numbers z k = rw (is_within_lem k.terminals, is_within_lem k.symbols) (is_within_lem k.rules)

-- the lengths of a grammar's arrays
pub record GrammarFits (z : Sizes) (left lens rights : List ℕ) : Type 0 where
  pub numbers : NumbersFit z
  pub lefts : length left ≡ z.rules
  pub lengths : length lens ≡ z.rules
  pub short : (i : ℕ) → i < length lens → get_or lens i 0 ≤ 64
  pub total : sum lens ≡ length rights

module _ (z : Sizes) (left lens rights : List ℕ) where
  pub grammar_fits_lem : grammar_fits z left lens rights ≡ true → GrammarFits z left lens rights
  unfolding grammar_fits rights_fit
  grammar_fits_lem e =
      let p : (numbers_fit z ≡ true) × _ = and-true (numbers_fit z) e in
      let q : (eqb (length left) z.rules ≡ true) × _ = and-true (eqb (length left) z.rules) p.1 in
      let r : (eqb (length lens) z.rules ≡ true) × _ = and-true (eqb (length lens) z.rules) q.1 in
      let s : (all (λ n. leb n 64) lens ≡ true) × (eqb (sum lens) (length rights) ≡ true) = and-true (all (λ n. leb n 64) lens) r.1 in
      record {
        numbers = numbers_fit_lem z p.0;
        lefts = eqb-true _ _ q.0;
        lengths = eqb-true _ _ r.0;
        short = λ i h. leb-true _ _ (all-at (λ n. leb n 64) lens s.0 i h);
        total = eqb-true _ _ s.1;
      }

-- the bounds of L, and the lengths of a signing's arrays
pub record SigningFits (z : Sizes) (states : ℕ) (srule sgoto : List ℕ) : Type 0 where
  pub numbers : NumbersFit z
  pub count : Within 2 1024 states
  pub rules : length srule ≡ states
  pub targets : length sgoto ≡ z.symbols - z.terminals

module _ (z : Sizes) (states : ℕ) (srule sgoto : List ℕ) where
  pub signing_fits_lem : signing_fits z states srule sgoto ≡ true → SigningFits z states srule sgoto
  unfolding signing_fits states_fit
  signing_fits_lem e =
      let p : (numbers_fit z ≡ true) × _ = and-true (numbers_fit z) e in
      let q : (is_within 2 1024 states ≡ true) × _ = and-true (is_within 2 1024 states) p.1 in
      let r : (eqb (length srule) states ≡ true) × _ = and-true (eqb (length srule) states) q.1 in
      record {
        numbers = numbers_fit_lem z p.0;
        count = within _ _ _ q.0;
        rules = eqb-true _ _ r.0;
        targets = eqb-true _ _ r.1;
      }

  pub fit-signing : SigningFits z states srule sgoto → signing_fits z states srule sgoto ≡ true
  unfolding signing_fits states_fit
  fit-signing k =
      rw (fit-numbers z k.numbers, is_within_lem k.count, eq-eqb _ _ k.rules) (eq-eqb _ _ k.targets)

module _ (z : Sizes) (states : ℕ) (table : List ℤ) where
  pub table_fits_lem : table_fits z states table ≡ true → length table ≡ states * z.symbols
  unfolding table_fits
  table_fits_lem e = eqb-true _ _ e

-- grammar, table and signing together
pub record AllFit (z : Sizes) (states : ℕ) (left lens rights : List ℕ) (table : List ℤ) (srule sgoto : List ℕ) : Type 0 where
  pub grammar : grammar_fits z left lens rights ≡ true
  pub signing : signing_fits z states srule sgoto ≡ true
  pub table-size : table_fits z states table ≡ true

module _ (z : Sizes) (states : ℕ) (left lens rights : List ℕ) (table : List ℤ) (srule sgoto : List ℕ) where
  pub all_fit_lem : all_fit z states left lens rights table srule sgoto ≡ true → AllFit z states left lens rights table srule sgoto
  unfolding all_fit
  all_fit_lem e =
      let p : (grammar_fits z left lens rights ≡ true) × _ = and-true (grammar_fits z left lens rights) e in
      let q : (signing_fits z states srule sgoto ≡ true) × _ = and-true (signing_fits z states srule sgoto) p.1 in
      record { grammar = p.0; signing = q.0; table-size = q.1 }

  pub fit_all : AllFit z states left lens rights table srule sgoto → all_fit z states left lens rights table srule sgoto ≡ true
  unfolding all_fit
  fit_all k = rw (k.grammar, k.signing) k.table-size
