-- What a table and a signing that are not refused give the job that they stand for. Assumes nothing.
use Rattle.std.specs.Prelude.{◌≡◌, ℕ, zero, suc, ◌+◌, ◌-◌, ◌*◌, ◌%◌, ◌≤◌, ◌<◌, true, List, ℤ, negsuc, length, ◌≢◌, get_or}
use Rattle.std.proofs.Common.{sym, ap, ◌∙◌, arith}
use Rattle.std.proofs.Math.Decide.{dec_lt}
use Rattle.std.proofs.Math.IntN.{pos}
use Rattle.std.proofs.Math.ListN.{get_or-eq_default}
use Rattle.tables.specs.declared.Sizes.{Sizes}
use Rattle.tables.specs.Entry.{entry_at, good_entry, lowest_entry}
use Rattle.tables.specs.Signing.{signing, good_signature, good_target, lowest_state, lowest_target}
use Rattle.tables.specs.Verdict.{Passed}
use Rattle.tables.specs.Laws.Lowest.{nowhere-passed}
use Rattle.tables.specs.Entry.{good_at}
use Rattle.tables.specs.Laws.Entry.{TermOk, NontermOk, term-ok, nonterm-ok, TableOk, table-ok}
use Rattle.tables.specs.Laws.Signing.{RuleSigned, unsigned, by-rule, SigningOk, signing-ok}
use Rattle.tables.specs.Laws.Size.{SigningFits, signing_fits_lem, table_fits_lem}
use Rattle.cells.specs.Read.{Kind, twice}
use Rattle.packing.specs.Job.{blank, shift, view, job_of}
use Rattle.packing.specs.Valid.{Valid, Edition}
use Rattle.packing.specs.Laws.Rows.{row-entry}
use Rattle.packing.specs.Laws.WellFormed.{OkTerm, OkGoto, RowOk, WF}

-- ---- the two editions

pub edition-twice : (T : ℕ) → Edition T twice
edition-twice T = record { most = λ A. omega arith; least = λ A l. omega arith; apart = λ A l. omega arith }

pub edition-from : (T : ℕ) → Edition T (λ A. 2 * (A - T))
edition-from T = record { most = λ A. omega arith; least = λ A l. omega arith; apart = λ A l. omega arith }

-- ---- a good entry

-- every shift is to a state 1..L-1
any-shift : (z : Sizes) (states a : ℕ) (e : ℤ) (t : ℕ) → good_entry z states a e ≡ true → view e ≡ shift t → (1 ≤ t) × (t < states)
any-shift z states a (pos zero) t h v = absurd (let y : ◌≡◌ {A = ℕ} 0 1 = cc in omega arith)
any-shift z states a (negsuc n) t h v = absurd (let y : ◌≡◌ {A = ℕ} 0 1 = cc in omega arith)
any-shift z states a (pos (suc n)) t h v = let q : suc n ≡ t = cc in let l = go (dec_lt a z.terminals) in (omega arith, omega arith)
  where
    go : Dec (a < z.terminals) → suc n < states
    go (yes y) = (term-ok z states a (pos (suc n)) y h).0
    go (no y) = (nonterm-ok z states a (pos (suc n)) (omega arith) h).0

-- ---- all of it

module _ (z : Sizes) (states : ℕ) (table : List ℤ) (srule sgoto : List ℕ) (v : Valid z states table srule sgoto) where
  pub fit : SigningFits z states srule sgoto
  fit = signing_fits_lem z states srule sgoto v.signing-size

  size : length table ≡ states * z.symbols
  size = table_fits_lem z states table v.table-size

  entries : Passed (good_at z states table) (length table)
  unfolding lowest_entry
  entries = nowhere-passed (good_at z states table) (length table) v.entries

  written : TableOk z states table
  written = table-ok z states table size (omega (arith, fit.numbers.symbols.least)) entries

  signatures : SigningOk z states (signing z srule sgoto)
  unfolding lowest_state lowest_target
  signatures =
      signing-ok z states srule sgoto (omega (arith, fit.count.least))
      (nowhere-passed (λ s. good_signature z (get_or srule s 0)) (length srule) v.rules)
      (nowhere-passed (good_target states sgoto) (length sgoto) v.targets)

  -- a signed rule is 2..G
  pub rule-at : (s : ℕ) → 1 ≤ get_or srule s 0 → (2 ≤ get_or srule s 0) × (get_or srule s 0 ≤ z.rules)
  unfolding signing
  rule-at s l = by (signatures.rules s)
    where
      by : RuleSigned z.rules (get_or srule s 0) → (2 ≤ get_or srule s 0) × (get_or srule s 0 ≤ z.rules)
      by (unsigned e) = absurd (omega arith)
      by (by-rule h k) = (h, k)

  module _ (off : ℕ → ℕ) (ed : Edition z.terminals off) where
    ok-term : (a : ℕ) (e : ℤ) → TermOk z states a e → OkTerm (job_of off z states table srule sgoto) a (view e)
    unfolding job_of
    ok-term a (pos zero) k = tt
    ok-term a (pos (suc t)) k = let n : a ≢ 0 = k.1 in (omega arith, k.0, omega arith)
    ok-term a (negsuc zero) k = (omega arith, fit.numbers.rules.least, λ q. k)
    ok-term a (negsuc (suc r)) k = (omega arith, k, λ q. absurd (omega arith))

    ok-goto : (a : ℕ) (e : ℤ) → NontermOk z states a e → OkGoto (job_of off z states table srule sgoto) (view e)
    unfolding job_of
    ok-goto a (pos zero) k = tt
    ok-goto a (pos (suc t)) k = (omega arith, k.0)
    ok-goto a (negsuc r) k = k

    job-rows : (s : ℕ) → s < states → (κ : Kind) → RowOk (job_of off z states table srule sgoto) κ s
    job-rows s ls κ a t w = go (dec_lt (s * z.symbols + a) (length table))
      where
        en : view (get_or table (s * z.symbols + a) (pos 0)) ≡ shift t
        en = unfold job_of entry_at in row-entry (job_of off z states table srule sgoto) κ s a (λ e. let y : ◌≡◌ {A = ℕ} 0 1 = cc in omega arith) ∙ w

        go : Dec (s * z.symbols + a < length table) → (1 ≤ t) × (t < (job_of off z states table srule sgoto).states)
        go (yes l) =
            unfold job_of in any-shift z states ((s * z.symbols + a) % z.symbols) (get_or table (s * z.symbols + a) (pos 0)) t (entries (s * z.symbols + a) l) en
        go (no l) =
            let e : get_or table (s * z.symbols + a) (pos 0) ≡ pos 0 = get_or-eq_default table (pos 0) (omega arith) in
            let y : blank ≡ shift t = sym (ap view e) ∙ en in absurd (let x : ◌≡◌ {A = ℕ} 0 1 = cc in omega arith)

    pub job-wf : WF (job_of off z states table srule sgoto)
    unfolding job_of signing
    job-wf =
        record {
          some-terms = let k = fit.numbers.terminals.least in omega arith;
          some-syms = let k = fit.numbers.symbols.least in omega arith;
          some-states = let k = fit.count.least in omega arith;
          term = λ s a ls la. ok-term a (entry_at z table s a) (written.terms s a ls la);
          nonterm = λ s A ls tA lA. ok-goto A (entry_at z table s A) (written.nonterms s A ls tA lA);
          rows = job-rows;
          signed = λ s ls. rule-at s;
          target = λ A. signatures.targets A;
          start = signatures.start_none;
          distinct = λ A B tA l lB n q. signatures.apart B A (λ e. omega arith) (omega arith) tA (λ e. omega arith) (sym q);
          edition = ed;
        }
