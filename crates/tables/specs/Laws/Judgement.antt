-- The judgement is right in both directions: what it says is the one verdict there is, and OK means that all is well formed. Assumes nothing.
use Rattle.std.specs.Prelude.{◌≡◌, Bool, cond, List, [], ℕ, zero, suc, ◌+◌, eqb, ℤ, length, get_or, Option, Result, Ok, Err, Some, None}
use Rattle.std.proofs.Math.Path.{refl}
use Rattle.std.proofs.Common.{sym, ap, ◌∙◌, arith}
use Rattle.std.proofs.Math.Bool.{true, false}
use Rattle.tables.specs.declared.Sizes.{Sizes}
use Rattle.tables.specs.declared.Refusal.{Refusal}
use Rattle.tables.specs.declared.Refusal.TheVariants.{Size, Grammar, Entry, State, Nonterminal}
use Rattle.tables.specs.Said.{Said, OK, SIZE, GRAMMAR, ENTRY, SIGN-STATE, SIGN-NONTERMINAL}
use Rattle.tables.specs.Size.{all_fit}
use Rattle.tables.specs.Grammar.{grammar, good_rule, lowest_rule}
use Rattle.tables.specs.Entry.{lowest_entry, good_at}
use Rattle.tables.specs.Signing.{signing, good_signature, good_target, lowest_state, lowest_target}
use Rattle.tables.specs.Verdict.{Verdict, sizes, rule, entry, state, target, good, Passed}
use Rattle.tables.specs.Judgement.{said_of, named, sign_judgement, judgement}
use Rattle.tables.specs.Lists.{lowest}
use Rattle.tables.specs.Laws.Lowest.{lowest-at, lowest-nowhere, at_least, nowhere-passed}
use Rattle.tables.specs.Laws.Size.{AllFit, all_fit_lem, fit_all, GrammarFits, grammar_fits_lem, SigningFits, signing_fits_lem, table_fits_lem}
use Rattle.tables.specs.Laws.Grammar.{GrammarOk, grammar-ok, ok-grammar}
use Rattle.tables.specs.Laws.Entry.{TableOk, table-ok, ok-table}
use Rattle.tables.specs.Laws.Signing.{SigningOk, signing-ok, ok-signatures, ok-targets}

module _ (z : Sizes) (states : ℕ) (left lens rights : List ℕ) (table : List ℤ) (srule sgoto : List ℕ) where
  abbrev fits : Bool
  fits = all_fit z states left lens rights table srule sgoto

  abbrev rule_at : ℕ → Bool
  rule_at = good_rule z left lens rights

  abbrev entry_is : ℕ → Bool
  entry_is = good_at z states table

  abbrev state_at : ℕ → Bool
  state_at s = good_signature z (get_or srule s 0)

  abbrev target_at : ℕ → Bool
  target_at = good_target states sgoto

  abbrev May : Said → Type 0
  May = Verdict z states left lens rights table srule sgoto

  abbrev said : Said
  said = judgement z states left lens rights table srule sgoto

  module _ (f : fits ≡ true) where
    module _ (p : Passed rule_at z.rules) where
      module _ (q : Passed entry_is (length table)) where
        by-target : Passed state_at (length srule) → (l : Option ℕ) → lowest target_at (length sgoto) ≡ l
            → May (named l (λ i. SIGN-NONTERMINAL (z.terminals + i)) (OK []))
        by-target r (Some i) e = target i f p q r (at_least target_at (length sgoto) i e)
        by-target r None e = good f p q r (nowhere-passed target_at (length sgoto) e)

        by_state : (l : Option ℕ) → lowest state_at (length srule) ≡ l
            → May (named l SIGN-STATE (named (lowest target_at (length sgoto)) (λ i. SIGN-NONTERMINAL (z.terminals + i)) (OK [])))
        by_state (Some s) e = state s f p q (at_least state_at (length srule) s e)
        by_state None e = by-target (nowhere-passed state_at (length srule) e) (lowest target_at (length sgoto)) refl

      by-entry : (l : Option ℕ) → lowest entry_is (length table) ≡ l → May (named l ENTRY (sign_judgement z states srule sgoto))
      unfolding sign_judgement lowest_state lowest_target
      by-entry (Some i) e = entry i f p (at_least entry_is (length table) i e)
      by-entry None e = by_state (nowhere-passed entry_is (length table) e) (lowest state_at (length srule)) refl

    by-rule : (l : Option ℕ) → lowest rule_at z.rules ≡ l
        → May (named l (λ i. GRAMMAR (i + 1)) (named (lowest entry_is (length table)) ENTRY (sign_judgement z states srule sgoto)))
    by-rule (Some i) e = rule i f (at_least rule_at z.rules i e)
    by-rule None e = by-entry (nowhere-passed rule_at z.rules e) (lowest entry_is (length table)) refl

  -- what the judgement says is a verdict
  pub judged : May said
  unfolding judgement lowest_rule lowest_entry
  judged = by_fits fits refl
    where
      by_fits : (b : Bool) → fits ≡ b
          → May (cond b (named (lowest rule_at z.rules) (λ i. GRAMMAR (i + 1)) (named (lowest entry_is (length table)) ENTRY (sign_judgement z states srule sgoto))) SIZE)
      by_fits true e = by-rule e (lowest rule_at z.rules) refl
      by_fits false e = sizes e

  -- and there is no other
  pub only : {s : Said} → May s → s ≡ said
  unfolding judgement sign_judgement lowest_rule lowest_entry lowest_state lowest_target
  only (sizes f) = rw f
  only (rule i f l) = rw (f, lowest-at rule_at z.rules i l.0 l.1 l.2)
  only (entry i f p l) = rw (f, lowest-nowhere rule_at z.rules p, lowest-at entry_is (length table) i l.0 l.1 l.2)
  only (state s f p q l) = rw (f, lowest-nowhere rule_at z.rules p, lowest-nowhere entry_is (length table) q, lowest-at state_at (length srule) s l.0 l.1 l.2)
  only (target i f p q r l) =
      rw (
        f,
        lowest-nowhere rule_at z.rules p,
        lowest-nowhere entry_is (length table) q,
        lowest-nowhere state_at (length srule) r,
        lowest-at target_at (length sgoto) i l.0 l.1 l.2,
      )
  only (good f p q r t) =
      rw (
        f,
        lowest-nowhere rule_at z.rules p,
        lowest-nowhere entry_is (length table) q,
        lowest-nowhere state_at (length srule) r,
        lowest-nowhere target_at (length sgoto) t,
      )

  -- grammar, table and signing as document 01 asks for them
  pub record WellFormed : Type 0 where
    pub all : AllFit z states left lens rights table srule sgoto
    pub rules : GrammarOk (grammar z left lens rights)
    pub entries : TableOk z states table
    pub signatures : SigningOk z states (signing z srule sgoto)

  -- OK is said of what is well formed, and of nothing else
  pub ok-means : said ≡ OK [] → WellFormed
  ok-means e = from judged e
    where
      from : {s : Said} → May s → s ≡ OK [] → WellFormed
      from (sizes f) n = absurd (let k : ◌≡◌ {A = ℕ} 1 0 = ap (λ (t : Said). t.number) n in omega arith)
      from (rule i f l) n = absurd (let k : ◌≡◌ {A = ℕ} 2 0 = ap (λ (t : Said). t.number) n in omega arith)
      from (entry i f p l) n = absurd (let k : ◌≡◌ {A = ℕ} 3 0 = ap (λ (t : Said). t.number) n in omega arith)
      from (state i f p q l) n = absurd (let k : ◌≡◌ {A = ℕ} 4 0 = ap (λ (t : Said). t.number) n in omega arith)
      from (target i f p q r l) n = absurd (let k : ◌≡◌ {A = ℕ} 4 0 = ap (λ (t : Said). t.number) n in omega arith)
      from (good f p q r t) n =
          let a : AllFit z states left lens rights table srule sgoto = all_fit_lem z states left lens rights table srule sgoto f in
          let g : GrammarFits z left lens rights = grammar_fits_lem z left lens rights a.grammar in
          let y : SigningFits z states srule sgoto = signing_fits_lem z states srule sgoto a.signing in
          record {
            all = a;
            rules = grammar-ok z left lens rights g.numbers.rules.least p;
            entries = table-ok z states table (table_fits_lem z states table a.table-size) (omega (arith, g.numbers.symbols.least)) q;
            signatures = signing-ok z states srule sgoto (omega (arith, y.count.least)) r t;
          }

  pub means-ok : WellFormed → said ≡ OK []
  means-ok w =
      let g : GrammarFits z left lens rights = grammar_fits_lem z left lens rights w.all.grammar in
      let y : SigningFits z states srule sgoto = signing_fits_lem z states srule sgoto w.all.signing in
      sym
      (only
      (good
      (fit_all z states left lens rights table srule sgoto w.all)
      (ok-grammar z left lens rights w.rules)
      (ok-table z states table (table_fits_lem z states table w.all.table-size) (omega (arith, g.numbers.symbols.least)) w.entries)
      (ok-signatures z states srule sgoto (omega (arith, y.count.least)) w.signatures)
      (ok-targets z states srule sgoto (omega (arith, y.count.least)) w.signatures)))

-- the judgement that a number and its values stand for
abbrev judged_of : ℕ → List ℕ → Result (Unit {0}) Refusal
judged_of zero vs = Ok tt
judged_of (suc zero) vs = Err Size
judged_of (suc (suc zero)) vs = Err (Grammar (get_or vs 0 0))
judged_of (suc (suc (suc zero))) vs = Err (Entry (get_or vs 0 0))
judged_of (suc (suc (suc (suc n)))) vs = Err (cond (eqb (get_or vs 0 0) 0) (State (get_or vs 1 0)) (Nonterminal (get_or vs 1 0)))

read_back : (a : Result (Unit {0}) Refusal) → judged_of (said_of a).number (said_of a).values ≡ a
read_back (Ok u) = refl
read_back (Err Size) = refl
read_back (Err (Grammar r)) = refl
read_back (Err (Entry i)) = refl
read_back (Err (State s)) = refl
read_back (Err (Nonterminal x)) = refl

-- two outcomes that a contract by `said_of` allows are equal
pub said-once : (a b : Result (Unit {0}) Refusal) → said_of a ≡ said_of b → a ≡ b
said-once a b e = sym (read_back a) ∙ ap (λ (s : Said). judged_of s.number s.values) e ∙ read_back b
