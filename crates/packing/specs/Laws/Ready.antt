-- What is known of table and signing once they are judged. Assumes nothing.
use Rattle.std.specs.Prelude.{◌≡◌, true, List, ℕ, zero, suc, ◌+◌, ◌*◌, ◌%◌, ◌≤◌, ◌<◌, length, get_or, replicate, ℤ, pos, negsuc}
use Rattle.std.proofs.Common.{sym, ap, ◌∙◌, mul-le-mul, arith}
use Rattle.std.proofs.Math.Decide.{dec_lt}
use Rattle.std.proofs.Math.ListN.{get_or-eq_default}
use Rattle.tables.specs.declared.Sizes.{Sizes}
use Rattle.tables.specs.Entry.{entry_at, good_entry, lowest_entry}
use Rattle.tables.specs.Signing.{good_signature, lowest_state}
use Rattle.tables.specs.Verdict.{Passed}
use Rattle.tables.specs.Laws.Lowest.{nowhere-passed}
use Rattle.tables.specs.Entry.{good_at}
use Rattle.tables.specs.Laws.Entry.{term-ok, nonterm-ok}
use Rattle.tables.specs.Laws.Signing.{RuleSigned, unsigned, by-rule, signature-ok}
use Rattle.tables.specs.Laws.Size.{NumbersFit, SigningFits, signing_fits_lem}
use Rattle.packing.specs.Job.{blank, rule, view}
use Rattle.packing.specs.Bounds.{Low, Tame, TameRules}
use Rattle.packing.specs.Turns.{Ready}
use Rattle.packing.specs.Laws.Everywhere.{everywhere-same}

-- ---- signed rules

module _ (z : Sizes) (n : NumbersFit z) where
  signed_low : (q : ℕ) → RuleSigned z.rules q → q ≤ 1024
  signed_low q (unsigned e) = omega arith
  signed_low q (by-rule l h) = omega (arith, n.rules.most)

  -- ---- rules of the table

  good-low : (states a : ℕ) (v : ℤ) (r : ℕ) → good_entry z states a v ≡ true → view v ≡ rule r → r ≤ 1024
  good-low states a (pos zero) r g e = let y : ◌≡◌ {A = ℕ} 0 1 = cc in absurd (omega arith)
  good-low states a (pos (suc m)) r g e = let y : ◌≡◌ {A = ℕ} 0 1 = cc in absurd (omega arith)
  good-low states a (negsuc zero) r g e = let q : 1 ≡ r = cc in omega arith
  good-low states a (negsuc (suc m)) r g e = let q : suc (suc m) ≡ r = cc in omega (arith, by (dec_lt a z.terminals), n.rules.most)
    where
      by : Dec (a < z.terminals) → suc (suc m) ≤ z.rules
      by (yes l) = term-ok z states a (negsuc (suc m)) l g
      by (no l) = absurd (nonterm-ok z states a (negsuc (suc m)) (omega arith) g)

module _ (z : Sizes) (states : ℕ) (table : List ℤ) (srule sgoto : List ℕ) (ready : Ready z states table srule sgoto) where
  fits : SigningFits z states srule sgoto
  fits = signing_fits_lem z states srule sgoto ready.sizes

  pub tame : Tame z srule
  tame = record { numbers = fits.numbers; signs = λ s. go s (dec_lt s (length srule)) }
    where
      passed : (k : ℕ) → k < length srule → good_signature z (get_or srule k 0) ≡ true
      passed = nowhere-passed (λ s. good_signature z (get_or srule s 0)) (length srule) (unfold lowest_state in ready.rules)

      go : (s : ℕ) → Dec (s < length srule) → get_or srule s 0 ≤ 1024
      go s (yes l) = signed_low z fits.numbers (get_or srule s 0) (signature-ok z (get_or srule s 0) (passed s l))
      go s (no l) = let m : length srule ≤ s = omega arith in rw (get_or-eq_default srule 0 m) (omega arith)

  pub tame-rules : TameRules z table
  unfolding entry_at
  tame-rules s a r e = go (dec_lt (s * z.symbols + a) (length table))
    where
      passed : Passed (good_at z states table) (length table)
      passed = nowhere-passed (good_at z states table) (length table) (unfold lowest_entry in ready.entries)

      go : Dec (s * z.symbols + a < length table) → r ≤ 1024
      go (yes l) = good-low z fits.numbers states ((s * z.symbols + a) % z.symbols) (get_or table (s * z.symbols + a) (pos 0)) r (passed (s * z.symbols + a) l) e
      go (no l) =
          let m : length table ≤ s * z.symbols + a = omega arith in
          let q : blank ≡ rule r = sym (ap view (get_or-eq_default table (pos 0) m)) ∙ e in
          let y : ◌≡◌ {A = ℕ} 0 1 = cc in absurd (omega arith)

  -- so many bases are tried at most
  pub fuel-low : 2 * z.symbols + states * (4 * z.symbols + 4) ≤ 3000000
  fuel-low =
      let m : z.symbols ≤ 512 = fits.numbers.symbols.most in
      let l : states ≤ 1024 = fits.count.most in
      let k : 4 * z.symbols + 4 ≤ 2052 = omega arith in
      let p : states * (4 * z.symbols + 4) ≤ 1024 * 2052 = mul-le-mul l k in
      omega arith

pub low-none : (n : ℕ) → Low (replicate n 0)
low-none n = everywhere-same (λ p. p ≤ 4000000) n 0 0 (omega arith) (omega arith)
