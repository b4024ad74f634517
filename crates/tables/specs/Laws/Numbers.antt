-- The numbers of what the judgements say, and what 0 tells. Assumes nothing.
use Rattle.std.specs.Prelude.{◌≡◌, refl, ◌≢◌, ◌⊎◌, Bool, true, false, cond, List, [], ℕ, ◌+◌, ◌≤◌, ℤ, length, get_or, Option, Some, None}
use Rattle.std.proofs.Common.{inl, inr, ⊎_elim, arith}
use Rattle.tables.specs.declared.Sizes.{Sizes}
use Rattle.tables.specs.Said.{Said, OK, SIZE, GRAMMAR, ENTRY, SIGN-STATE, SIGN-NONTERMINAL}
use Rattle.tables.specs.Size.{signing_fits, all_fit}
use Rattle.tables.specs.Grammar.{lowest_rule}
use Rattle.tables.specs.Entry.{lowest_entry}
use Rattle.tables.specs.Signing.{signing, good_signature, good_target, lowest_state, lowest_target}
use Rattle.tables.specs.Judgement.{named, sign_judgement, signing_judgement, judgement}
use Rattle.tables.specs.Laws.Lowest.{nowhere-passed}
use Rattle.tables.specs.Laws.Size.{SigningFits, signing_fits_lem}
use Rattle.tables.specs.Laws.Signing.{SigningOk, signing-ok}
use Rattle.tables.specs.Verdict.{Verdict, sizes, rule, entry, state, target, good}
use Rattle.tables.specs.Laws.Judgement.{judged}

-- where 0 is said, none is named and what comes after says 0
named-zero : (l : Option ℕ) (name : ℕ → Said) (next : Said) → ((k : ℕ) → (name k).number ≢ 0) → (named l name next).number ≡ 0 → (l ≡ None) × (next.number ≡ 0)
named-zero (Some k) name next n e = absurd (n k e)
named-zero None name next n e = (refl, e)

-- where 0 is said, the sizes fit and what comes after says 0
size-zero : (b : Bool) (next : Said) → (cond b next SIZE).number ≡ 0 → (b ≡ true) × (next.number ≡ 0)
size-zero true next e = (refl, e)
size-zero false next e = absurd (omega arith)

-- ---- SIGN

module _ (z : Sizes) (states : ℕ) (srule sgoto : List ℕ) where
  -- the number is at most 4
  pub sign_low : (sign_judgement z states srule sgoto).number ≤ 4
  unfolding sign_judgement
  sign_low = by (lowest_state z srule) (lowest_target states sgoto)
    where
      by : (l m : Option ℕ) → (named l SIGN-STATE (named m (λ i. SIGN-NONTERMINAL (z.terminals + i)) (OK []))).number ≤ 4
      by (Some s) m = omega arith
      by None (Some i) = omega arith
      by None None = omega arith

  -- where it is 0, no signature is bad
  pub sign_zero : (sign_judgement z states srule sgoto).number ≡ 0 → (lowest_state z srule ≡ None) × (lowest_target states sgoto ≡ None)
  unfolding sign_judgement
  sign_zero e =
      let s = named-zero (lowest_state z srule) SIGN-STATE _ (λ k q. omega arith) e in
      let t = named-zero (lowest_target states sgoto) (λ i. SIGN-NONTERMINAL (z.terminals + i)) _ (λ k q. omega arith) s.1 in
      (s.0, t.0)

  -- so the signing is as document 01 asks for it
  pub sign-means : signing_fits z states srule sgoto ≡ true → (sign_judgement z states srule sgoto).number ≡ 0 → SigningOk z states (signing z srule sgoto)
  unfolding lowest_state lowest_target
  sign-means f e =
      let k : SigningFits z states srule sgoto = signing_fits_lem z states srule sgoto f in
      let p = sign_zero e in
      signing-ok z states srule sgoto (omega (arith, k.count.least))
      (nowhere-passed (λ s. good_signature z (get_or srule s 0)) (length srule) p.0)
      (nowhere-passed (good_target states sgoto) (length sgoto) p.1)

  -- ---- SIZE, then SIGN

  -- where the sizes do not fit, SIZE is said
  pub signing-size : signing_fits z states srule sgoto ≡ false → signing_judgement z states srule sgoto ≡ SIZE
  unfolding signing_judgement
  signing-size f = rw f

  -- where they fit, what SIGN says
  pub signing-sign : signing_fits z states srule sgoto ≡ true → signing_judgement z states srule sgoto ≡ sign_judgement z states srule sgoto
  unfolding signing_judgement
  signing-sign f = rw f

  -- where the number is 0, the sizes fit and SIGN is not said
  pub signing-zero : (signing_judgement z states srule sgoto).number ≡ 0 → (signing_fits z states srule sgoto ≡ true) × ((sign_judgement z states srule sgoto).number ≡ 0)
  unfolding signing_judgement
  signing-zero e = size-zero (signing_fits z states srule sgoto) (sign_judgement z states srule sgoto) e

-- ---- the whole judgement

module _ (z : Sizes) (states : ℕ) (left lens rights : List ℕ) (table : List ℤ) (srule sgoto : List ℕ) where
  -- what is said
  abbrev said : Said
  said = judgement z states left lens rights table srule sgoto

  -- nothing is refused
  pub record Unrefused : Type 0 where
    pub fit : all_fit z states left lens rights table srule sgoto ≡ true
    pub rules : lowest_rule z left lens rights ≡ None
    pub entries : lowest_entry z states table ≡ None
    pub signatures : lowest_state z srule ≡ None
    pub targets : lowest_target states sgoto ≡ None

  -- that is so where the number is 0
  pub judged-zero : said.number ≡ 0 → Unrefused
  unfolding judgement
  judged-zero e =
      let f = size-zero (all_fit z states left lens rights table srule sgoto) _ e in
      let r = named-zero (lowest_rule z left lens rights) (λ i. GRAMMAR (i + 1)) _ (λ k q. omega arith) f.1 in
      let n = named-zero (lowest_entry z states table) ENTRY _ (λ k q. omega arith) r.1 in
      let p = sign_zero z states srule sgoto n.1 in
      record { fit = f.0; rules = r.0; entries = n.0; signatures = p.0; targets = p.1 }

  -- OK is said, or a number from 1 to 4
  pub judged-cases : (said ≡ OK []) ⊎ ((1 ≤ said.number) × (said.number ≤ 4))
  judged-cases = by (judged z states left lens rights table srule sgoto)
    where
      by : {s : Said} → Verdict z states left lens rights table srule sgoto s → (s ≡ OK []) ⊎ ((1 ≤ s.number) × (s.number ≤ 4))
      by (sizes f) = inr (omega arith, omega arith)
      by (rule i f l) = inr (omega arith, omega arith)
      by (entry i f p l) = inr (omega arith, omega arith)
      by (state i f p q l) = inr (omega arith, omega arith)
      by (target i f p q r l) = inr (omega arith, omega arith)
      by (good f p q r t) = inl refl

  -- so the number is at most 4
  pub judged-low : said.number ≤ 4
  judged-low = ⊎_elim (λ e. rw e (omega arith)) (λ h. h.1) judged-cases
