-- Bounds of what a signing that fits has written: of the numbers of its entries, and of its text. Assumes nothing.
use Rattle.std.specs.Prelude.{◌≡◌, Bool, true, false, cond, List, [], ◌∷◌, ◌++◌, ℕ, zero, suc, ◌+◌, ◌-◌, ◌*◌, ◌/◌, ◌%◌, ◌≤◌, ltb, eqb, length, drop, take}
use Rattle.std.proofs.Common.{arith, length-append, length-drop, take_all}
use Rattle.tables.specs.declared.Sizes.{Sizes}
use Rattle.tables.specs.Size.{signing_fits}
use Rattle.tables.specs.Laws.Size.{SigningFits, signing_fits_lem}
use Rattle.sheets.specs.Decimal.{digit, last_after, digits, decimal}
use Rattle.sheets.specs.Sheet.{none_word, sheet_key, terminals_key, symbols_key, rules_key, states_key, state_key, goto_key, value, line, entry_key, header, entries, joined, sheet_text}
use Rattle.sheets.specs.Meaning.{Signed}
use Rattle.sheets.specs.Emit.{Room}
use Rattle.sheets.specs.Laws.Entries.{line-length}
use Rattle.sheets.specs.Laws.Told.{Small}
use Rattle.sheets.specs.Laws.Wants.{sheet-parts}
use Rattle.sheets.specs.Laws.Signed.{rules-small, targets-small}

-- all elements but the first, as a part of a slice has them
pub tail-whole : (l : List ℕ) → take (length l - 1) (drop 1 l) ≡ drop 1 l
tail-whole l = take_all (length l - 1) (drop 1 l) (omega (arith, length-drop 1 l))

module _ (z : Sizes) (states : ℕ) (srule sgoto : List ℕ) (f : signing_fits z states srule sgoto ≡ true) where
  fitting : SigningFits z states srule sgoto
  fitting = signing_fits_lem z states srule sgoto f

  pub few-rules : 0 + length srule ≤ 65535
  few-rules = omega (arith, fitting.rules, fitting.count.most)

  pub few-targets : z.terminals + 1 + length (drop 1 sgoto) ≤ 65535
  few-targets =
      omega (
        arith,
        length-drop 1 sgoto,
        fitting.targets,
        fitting.numbers.terminals.most,
        fitting.numbers.symbols.most,
      )

  pub some-target : 1 ≤ length sgoto
  some-target = omega (arith, fitting.targets, fitting.numbers.symbols.least)

-- ---- the text of a good signing is short

digits-length : (k n : ℕ) → length (digits k n) ≤ k
unfolding digits
digits-length zero n = omega arith
digits-length (suc k) n = by (ltb n 10) (digits-length k (n / 10))
  where
    by : (b : Bool) → length (digits k (n / 10)) ≤ k → length (last_after (digits k) n b) ≤ suc k
    by true h = omega arith
    by false h = omega (arith, length-append (digits k (n / 10)) (digit (n % 10) ∷ []))

decimal-length : (n : ℕ) → length (decimal n) ≤ suc n
unfolding decimal
decimal-length n = digits-length (suc n) n

value-length : (v : ℕ) → length (value v) ≤ v + 4
unfolding value
value-length v = by (eqb v 0)
  where
    by : (b : Bool) → length (cond b none_word (decimal v)) ≤ v + 4
    by true = omega arith
    by false = omega (arith, decimal-length v)

-- a line of an entry is at most 140,000 bytes long
entries-length : (key : List ℕ) (i : ℕ) (vs : List ℕ) → length key ≤ 9 → i + length vs ≤ 65535 → Small vs → length (joined (entries key i vs)) ≤ 140000 * length vs
unfolding joined entries entry_key
entries-length key i [] k h s = omega arith
entries-length key i (v ∷ vs) k h s =
    let r : length (joined (entries key (i + 1) vs)) ≤ 140000 * length vs = entries-length key (i + 1) vs k (omega arith) (λ j. s (suc j)) in
    omega (
      arith,
      s 0,
      length-append (line (key ++ decimal i) (value v)) (joined (entries key (i + 1) vs)),
      line-length (key ++ decimal i) (value v),
      length-append key (decimal i),
      decimal-length i,
      value-length v,
    )

-- and a line of the header at most 1,040
header-line : (key : List ℕ) (n : ℕ) → length key ≤ 9 → n ≤ 1024 → length (line key (decimal n)) ≤ 1040
header-line key n k h = omega (arith, line-length key (decimal n), decimal-length n)

header-length : (z : Sizes) (states : ℕ) → z.terminals ≤ 1024 → z.symbols ≤ 1024 → z.rules ≤ 1024 → states ≤ 1024 → length (joined (header z states)) ≤ 5200
unfolding joined header
header-length z states t m g l =
    simp length-append
    (omega (
      arith,
      header-line sheet_key 1 (omega arith) (omega arith),
      header-line terminals_key z.terminals (omega arith) t,
      header-line symbols_key z.symbols (omega arith) m,
      header-line rules_key z.rules (omega arith) g,
      header-line states_key states (omega arith) l,
    ))

module _ (z : Sizes) (states : ℕ) (srule sgoto : List ℕ) (y : Signed z states srule sgoto) where
  -- its length is a number of the machine
  pub text-room : Room 0 (sheet_text z states srule sgoto)
  text-room =
      let f : SigningFits z states srule sgoto = fitting z states srule sgoto y.fits in
      let h : length (joined (header z states)) ≤ 5200 =
      header-length z states (omega (arith, f.numbers.terminals.most)) (omega (arith, f.numbers.symbols.most)) f.numbers.rules.most f.count.most in
      let few : 0 + length srule ≤ 65535 = few-rules z states srule sgoto y.fits in
      let ends : z.terminals + 1 + length (drop 1 sgoto) ≤ 65535 = few-targets z states srule sgoto y.fits in
      rw (sheet-parts z states srule sgoto)
      (record {
        fits =
            simp length-append
            (omega (
              arith,
              entries-length state_key 0 srule (omega arith) few (rules-small z states srule sgoto y),
              entries-length goto_key (z.terminals + 1) (drop 1 sgoto) (omega arith) ends (targets-small z states srule sgoto y),
            ));
      })
