-- What the check says is the verdict, where the judgement refuses nothing, and the judgement's refusal where it does. Assumes nothing.
use Rattle.std.specs.Prelude.{◌≡◌, refl, ◌≢◌, ◌↔◌, ◌⊎◌, List, [], ℕ, ◌≤◌, ℤ, get_or}
use Rattle.std.proofs.Common.{sym, ap, ◌∙◌, inl, inr, ⊎_elim, arith, ne_eqb}
use Rattle.tables.specs.declared.Sizes.{Sizes}
use Rattle.tables.specs.declared.Refusal.{Refusal}
use Rattle.tables.specs.declared.Refusal.TheVariants.{Size, Grammar as bad-rule, Entry, State, Nonterminal}
use Rattle.tables.specs.Said.{Said, OK, UNSOUND}
use Rattle.tables.specs.Grammar.{Grammar, grammar}
use Rattle.tables.specs.Judgement.{judgement}
use Rattle.tables.specs.Judgement as tables
use Rattle.tables.specs.Laws.Judgement as laws
use Rattle.tables.specs.Laws.Numbers.{judged-cases}
use Rattle.reads.specs.Reads.{Reads}
use Rattle.machine.specs.Reads.{plain_reads, unsigned_reads}
use Rattle.soundness.specs.Path.{PathTo}
use Rattle.soundness.specs.Verdict.{Reduces, Handle, Verdict, sound, unsound, IsVerdict}
use Rattle.soundness.specs.Check.{verdict}
use Rattle.soundness.specs.Outcome.{verdict_said, judged_then, checked}
use Rattle.soundness.specs.Laws.Verdict.{verdict-unique}
use Rattle.soundness.specs.Laws.Check.{verdict-right}
use Rattle.soundness.specs.Laws.Proper.{Proper, well-bounded, well-proper, proper-rules}

-- two verdicts that are said alike are the same
pub verdict-once : (w x : Verdict) → verdict_said w ≡ verdict_said x → w ≡ x
verdict-once sound sound e = refl
verdict-once sound (unsound s r) e = absurd (let k : ◌≡◌ {A = ℕ} 0 6 = ap (λ (t : Said). t.number) e in omega arith)
verdict-once (unsound s r) sound e = absurd (let k : ◌≡◌ {A = ℕ} 6 0 = ap (λ (t : Said). t.number) e in omega arith)
verdict-once (unsound s r) (unsound p q) e =
    let a : s ≡ p = ap (λ (t : Said). get_or t.values 0 0) e in
    let b : r ≡ q = ap (λ (t : Said). get_or t.values 1 0) e in
    cc

-- a verdict is said under 0 or 6
verdict-number : (w : Verdict) → ((verdict_said w).number ≡ 0) ⊎ ((verdict_said w).number ≡ 6)
verdict-number sound = inl refl
verdict-number (unsound s r) = inr refl

-- no refusal is said under 0
refused_some : (e : Refusal) → (tables.refused e).number ≢ 0
refused_some Size n = omega arith
refused_some (bad-rule r) n = omega arith
refused_some (Entry i) n = omega arith
refused_some (State s) n = omega arith
refused_some (Nonterminal x) n = omega arith

module _ (z : Sizes) (states : ℕ) (left lens rights : List ℕ) (table : List ℤ) (srule sgoto : List ℕ) where
  abbrev judged : Said
  judged = judgement z states left lens rights table srule sgoto

  abbrev said : Said
  said = checked z states left lens rights table srule sgoto

  abbrev g : Grammar
  g = grammar z left lens rights

  abbrev u : Reads
  u = unsigned_reads z table

  abbrev v : Reads
  v = plain_reads z table srule sgoto

  -- a refusal of 1 to 4 is said back
  pub checked_refused : judged.number ≢ 0 → said ≡ judged
  unfolding checked judged_then
  checked_refused n = rw (ne_eqb judged.number 0 n)

  pub said-back : (e : Refusal) → judged ≡ tables.refused e → said ≡ tables.refused e
  said-back e h = checked_refused (λ n. refused_some e (ap (λ (t : Said). t.number) (sym h) ∙ n)) ∙ h

  module _ (good : judged ≡ OK []) where
    pub good-proper : Proper g u v
    good-proper = well-proper (laws.ok-means z states left lens rights table srule sgoto good)

    -- what is worked out is the verdict
    pub good_right : IsVerdict g u v (verdict g u v states)
    good_right = verdict-right g u v states (well-bounded (laws.ok-means z states left lens rights table srule sgoto good)) (proper-rules good-proper)

    -- and it is what is said
    pub good-said : said ≡ verdict_said (verdict g u v states)
    unfolding checked judged_then
    good-said = rw good

  -- the check says a verdict exactly where the judgement refuses nothing and it is the verdict
  pub checked-exact : (w : Verdict) → (said ≡ verdict_said w) ↔ ((judged ≡ OK []) × IsVerdict g u v w)
  checked-exact w = (λ e. from e (judged-cases z states left lens rights table srule sgoto), λ k. good-said k.0 ∙ ap verdict_said (verdict-unique g u v (verdict g u v states) w (good_right k.0) k.1))
    where
      from : said ≡ verdict_said w → (judged ≡ OK []) ⊎ ((1 ≤ judged.number) × (judged.number ≤ 4)) → (judged ≡ OK []) × IsVerdict g u v w
      from e (inl good) =
          let q : verdict g u v states ≡ w = verdict-once (verdict g u v states) w (sym (good-said good) ∙ e) in
          (good, rw q at (good_right good))
      from e (inr n) =
          let m : judged.number ≡ (verdict_said w).number = ap (λ (t : Said). t.number) (sym (checked_refused (λ k. omega arith)) ∙ e) in
          absurd (⊎_elim (λ (k : (verdict_said w).number ≡ 0). omega arith) (λ (k : (verdict_said w).number ≡ 6). omega arith) (verdict-number w))

  -- where some path breaks the conditions, UNSOUND is said
  pub broken-said : judged ≡ OK [] → (s r : ℕ) (ss xs : List ℕ) → PathTo g u s ss xs → Reduces g v s r → (Handle g u r s ss xs → ⊥)
      → (p : ℕ) × (q : ℕ) × (said ≡ UNSOUND p q)
  broken-said good s r ss xs w k n = by (verdict g u v states) (good_right good) (good-said good)
    where
      by : (w : Verdict) → IsVerdict g u v w → said ≡ verdict_said w → (p : ℕ) × (q : ℕ) × (said ≡ UNSOUND p q)
      by sound i e = absurd (n (i r s ss xs w k))
      by (unsound p q) i e = (p, q, e)
