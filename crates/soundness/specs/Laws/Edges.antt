-- Edges, told from the table's entries: a positive entry leads to the state that it names, read as a goto of any column. Assumes nothing.
use Rattle.std.specs.Prelude.{◌≡◌, refl, ◌≢◌, Bool, true, false, List, [], ℕ, zero, suc, ◌+◌, ◌≤◌, ◌<◌, ltb, ℤ, pos, negsuc, Option, Some, None, is_some}
use Rattle.std.proofs.Common.{sym, ap, ◌∙◌, arith, ltb-true, ltb-false, ne_eqb}
use Rattle.std.proofs.Math.Dec.{eqb-suc-zero}
use Rattle.number.specs.Number.{sign_of}
use Rattle.tables.specs.declared.Sizes.{Sizes}
use Rattle.tables.specs.Grammar.{Grammar, grammar}
use Rattle.tables.specs.Entry.{entry_at, action_of, action_at, goto_of, goto_at}
use Rattle.tables.specs.Laws.Size.{Within, NumbersFit}
use Rattle.tables.specs.Laws.Entry.{TermOk, NontermOk, TableOk}
use Rattle.tables.specs.Laws.Tests.{clash}
use Rattle.reads.specs.Reads.{shift, goes, nowhere, Reads}
use Rattle.machine.specs.Reads.{act_of, go_of, plain_reads, unsigned_reads}
use Rattle.soundness.specs.Path.{Edge, by-shift, by-goto, PathTo, here, along, Reach}
use Rattle.soundness.specs.Verdict.{Reduces, by-rule, by-accept}

-- ---- one entry: a shift or a goto is a positive number, and is read as a goto

shift-goto : (e : ℤ) {t : ℕ} → act_of (action_of (sign_of e)) ≡ shift t → goto_of (sign_of e) ≡ Some t
shift-goto (pos zero) h = absurd (cc)
shift-goto (pos (suc n)) {t} h =
    let k : shift (suc n) ≡ shift t = rw (eqb-suc-zero n) at h in
    rw (eqb-suc-zero n) (cc)
shift-goto (negsuc zero) h = absurd (cc)
shift-goto (negsuc (suc n)) {t} h =
    let k : _ ≡ shift t = rw (ne_eqb (suc (suc n)) 1 (λ o. omega arith)) at h in
    absurd (cc)

goto-shift : (e : ℤ) {t : ℕ} → goto_of (sign_of e) ≡ Some t → act_of (action_of (sign_of e)) ≡ shift t
goto-shift (pos zero) h = absurd (cc)
goto-shift (pos (suc n)) {t} h =
    let k : Some (suc n) ≡ Some t = rw (eqb-suc-zero n) at h in
    rw (eqb-suc-zero n) (cc)
goto-shift (negsuc n) h = absurd (cc)

goto_some : (e : ℤ) {t : ℕ} → goto_of (sign_of e) ≡ Some t → t ≢ 0
goto_some (pos zero) h o = absurd (cc)
goto_some (pos (suc n)) {t} h o =
    let k : Some (suc n) ≡ Some t = rw (eqb-suc-zero n) at h in
    let q : suc n ≡ t = cc in
    omega arith
goto_some (negsuc n) h o = absurd (cc)

goes-some : (o : Option ℕ) {t : ℕ} → go_of o ≡ goes t → o ≡ Some t
goes-some None h = absurd (cc)
goes-some (Some n) h = cc

-- a goto that is not blank leads to a state, and back
module _ (z : Sizes) (table : List ℤ) (s x : ℕ) where
  pub goto-there : (unsigned_reads z table).go s x ≢ nowhere → is_some (goto_at z table s x) ≡ true
  unfolding unsigned_reads
  goto-there n = by (goto_at z table s x) n
    where
      by : (o : Option ℕ) → go_of o ≢ nowhere → is_some o ≡ true
      by None d = absurd (d refl)
      by (Some t) d = refl

  pub there-goto : is_some (goto_at z table s x) ≡ true → (unsigned_reads z table).go s x ≢ nowhere
  unfolding unsigned_reads
  there-goto h = by (goto_at z table s x) h
    where
      by : (o : Option ℕ) → is_some o ≡ true → go_of o ≢ nowhere
      by None h q = clash h refl
      by (Some t) h q = absurd (cc)

  -- and never to state 0
  pub goto-not-0 : {t : ℕ} → goto_at z table s x ≡ Some t → t ≢ 0
  unfolding goto_at
  goto-not-0 e = goto_some (entry_at z table s x) e

-- ---- what needs little of a grammar and of a signing

-- a grammar's symbols alone
abbrev pub bare : Sizes → Grammar
bare z = grammar z [] [] []

-- edges and paths need no more of it
module _ {g g' : Grammar} (t : g.T ≡ g'.T) (n : g.M ≡ g'.M) where
  edge-any : {m : Reads} {s x t : ℕ} → Edge g m s x t → Edge g' m s x t
  edge-any (by-shift h e) = by-shift (rw t at h) e
  edge-any (by-goto h k e) = by-goto (rw t at h) (rw n at k) e

  pub path-any : {m : Reads} {s : ℕ} {ss xs : List ℕ} → PathTo g m s ss xs → PathTo g' m s ss xs
  path-any here = here
  path-any (along e w) = along (edge-any e) (path-any w)

-- what a row reduces by needs the terminals and the actions alone
pub reduces-any : {g g' : Grammar} {v v' : Reads} → g.T ≡ g'.T → ((s a : ℕ) → v.act s a ≡ v'.act s a) → {s q : ℕ} → Reduces g v s q → Reduces g' v' s q
reduces-any t d {s} (by-rule a h e) = by-rule a (rw t at h) (sym (d s a) ∙ e)
reduces-any t d {s} (by-accept a h e) = by-accept a (rw t at h) (sym (d s a) ∙ e)

module _ (z : Sizes) (left lens rights : List ℕ) where
  pub bare-T : (bare z).T ≡ (grammar z left lens rights).T
  unfolding grammar
  bare-T = refl

  pub bare-M : (bare z).M ≡ (grammar z left lens rights).M
  unfolding grammar
  bare-M = refl

-- the actions of a filled row depend on no signed state
pub acts-any : (z : Sizes) (table : List ℤ) (srule sgoto sgoto' : List ℕ) (s a : ℕ) → (plain_reads z table srule sgoto).act s a ≡ (plain_reads z table srule sgoto').act s a
unfolding plain_reads
acts-any z table srule sgoto sgoto' s a = refl

-- ---- a table that is well formed

-- sizes within their bounds, and every entry good
pub record Tabled (z : Sizes) (states : ℕ) (table : List ℤ) : Type 0 where
  pub numbers : NumbersFit z
  pub count : Within 2 1024 states
  pub entries : TableOk z states table

-- some path of the unsigned table leads to s
abbrev pub Reached : Sizes → List ℤ → ℕ → Type 0
Reached z table s = Reach (bare z) (unsigned_reads z table) s

-- an edge of the unsigned table
abbrev pub Leads : Sizes → List ℤ → ℕ → ℕ → ℕ → Type 0
Leads z table s x t = Edge (bare z) (unsigned_reads z table) s x t

module _ {z : Sizes} {states : ℕ} {table : List ℤ} (k : Tabled z states table) where
  pub symbols-some : z.terminals + 2 ≤ z.symbols
  symbols-some = k.numbers.symbols.least

  -- what an edge is: an entry that names its state
  pub leads-below : {s x t : ℕ} → Leads z table s x t → x < z.symbols
  unfolding grammar
  leads-below (by-shift h e) = omega (arith, symbols-some)
  leads-below (by-goto h l e) = l

  pub leads-goto : {s x t : ℕ} → Leads z table s x t → goto_at z table s x ≡ Some t
  unfolding unsigned_reads action_at goto_at
  leads-goto {s} {x} (by-shift h e) = shift-goto (entry_at z table s x) e
  leads-goto {s} {x} (by-goto h l e) = goes-some (goto_of (sign_of (entry_at z table s x))) e

  pub goto-leads : {s x t : ℕ} → x < z.symbols → goto_at z table s x ≡ Some t → Leads z table s x t
  unfolding grammar unsigned_reads action_at goto_at
  goto-leads {s} {x} {t} h e = by (ltb x z.terminals) refl
    where
      by : (b : Bool) → ltb x z.terminals ≡ b → Leads z table s x t
      by true q = by-shift (ltb-true _ _ q) (goto-shift (entry_at z table s x) e)
      by false q = by-goto (ltb-false _ _ q) h (ap go_of e)

  -- to a state below L, and never on the end mark
  term-goto : (a : ℕ) (e : ℤ) {t : ℕ} → TermOk z states a e → goto_of (sign_of e) ≡ Some t → (t < states) × (a ≢ 0)
  term-goto a (pos zero) o h = absurd (cc)
  term-goto a (pos (suc n)) {t} o h =
      let k : Some (suc n) ≡ Some t = rw (eqb-suc-zero n) at h in
      let q : suc n ≡ t = cc in
      rw q at o
  term-goto a (negsuc r) o h = absurd (cc)

  nonterm-goto : (a : ℕ) (e : ℤ) {t : ℕ} → NontermOk z states a e → goto_of (sign_of e) ≡ Some t → t < states
  nonterm-goto a (pos zero) o h = absurd (cc)
  nonterm-goto a (pos (suc n)) {t} o h =
      let k : Some (suc n) ≡ Some t = rw (eqb-suc-zero n) at h in
      let q : suc n ≡ t = cc in
      rw q at o.0
  nonterm-goto a (negsuc r) o h = absurd o

  pub goto-in : {s x t : ℕ} → s < states → x < z.symbols → goto_at z table s x ≡ Some t → (t < states) × (x ≢ 0)
  unfolding goto_at
  goto-in {s} {x} {t} h l e = by (ltb x z.terminals) refl
    where
      by : (b : Bool) → ltb x z.terminals ≡ b → (t < states) × (x ≢ 0)
      by true q = term-goto x (entry_at z table s x) (k.entries.terms s x h (ltb-true _ _ q)) e
      by false q =
          let b : z.terminals ≤ x = ltb-false _ _ q in
          (nonterm-goto x (entry_at z table s x) (k.entries.nonterms s x h b l) e, λ o. omega (arith, k.numbers.terminals.least))

  pub leads-in : {s x t : ℕ} → s < states → Leads z table s x t → (t < states) × (x ≢ 0)
  leads-in h e = goto-in h (leads-below e) (leads-goto e)
