-- What a signing is that fits and that SIGN does not refuse: its entries can be written, and that of T is 0. Assumes nothing.
use Rattle.std.specs.Prelude.{◌≡◌, List, [], ◌∷◌, ◌++◌, ℕ, zero, suc, ◌+◌, ◌-◌, ◌≤◌, ◌<◌, length, drop, get_or}
use Rattle.std.proofs.Common.{ap, ◌∙◌, length-drop, get_or-drop, arith, drop-cons}
use Rattle.tables.specs.declared.Sizes.{Sizes}
use Rattle.tables.specs.Signing.{signing}
use Rattle.tables.specs.Laws.Numbers.{sign-means}
use Rattle.tables.specs.Laws.Size.{SigningFits, signing_fits_lem}
use Rattle.tables.specs.Laws.Signing.{RuleSigned, unsigned, by-rule, SigningOk}
use Rattle.sheets.specs.Meaning.{Signed}
use Rattle.sheets.specs.Laws.Told.{Small}

pub small-append : (a b : List ℕ) → Small a → Small b → Small (a ++ b)
small-append [] b s t i = t i
small-append (v ∷ a) b s t zero = s 0
small-append (v ∷ a) b s t (suc i) = small-append a b (λ k. s (suc k)) t i

module _ (z : Sizes) (states : ℕ) (srule sgoto : List ℕ) (y : Signed z states srule sgoto) where
  pub lengths : SigningFits z states srule sgoto
  lengths = signing_fits_lem z states srule sgoto y.fits

  -- all its signatures are good
  signatures : SigningOk z states (signing z srule sgoto)
  signatures = sign-means z states srule sgoto y.fits y.judged

  -- the entry of nonterminal T + i
  target_at : (i : ℕ) → get_or sgoto i 0 < states
  unfolding signing
  target_at i =
      let e : z.terminals + i - z.terminals ≡ i = omega arith in
      rw e at (signatures.targets (z.terminals + i))

  pub rules-small : Small srule
  unfolding signing
  rules-small s = by (signatures.rules s)
    where
      by : RuleSigned z.rules (get_or srule s 0) → get_or srule s 0 ≤ 65535
      by (unsigned e) = omega arith
      by (by-rule l h) = omega (arith, lengths.numbers.rules.most)

  pub targets-small : Small (drop 1 sgoto)
  targets-small i = rw (get_or-drop 1 sgoto i 0) (omega (arith, target_at (1 + i), lengths.count.most))

  pub targets-count : length (drop 1 sgoto) ≡ z.symbols - z.terminals - 1
  targets-count = length-drop 1 sgoto ∙ ap (λ (n : ℕ). n - 1) lengths.targets

  -- the entry of T is 0
  pub start-unsigned : sgoto ≡ 0 ∷ drop 1 sgoto
  unfolding signing
  start-unsigned =
      let n : length sgoto ≡ z.symbols - z.terminals = lengths.targets in
      let m : z.terminals + 2 ≤ z.symbols = lengths.numbers.symbols.least in
      let e : z.terminals - z.terminals ≡ 0 = omega arith in
      drop-cons sgoto 0 0 (omega arith) ∙ ap (λ (v : ℕ). v ∷ drop 1 sgoto) (rw e at signatures.start_none)
