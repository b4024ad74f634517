-- What the judgement's OK gives of the unsigned table and the filled one. Assumes nothing.
use Rattle.std.specs.Prelude.{◌≡◌, refl, ◌≢◌, Bool, true, false, List, ℕ, zero, suc, ◌*◌, ◌≤◌, ◌<◌, ltb, ℤ, pos, negsuc, get_or}
use Rattle.std.proofs.Math.Nat.{mul-le-mul_right}
use Rattle.std.proofs.Common.{arith, ltb-true, ltb-false, eq-eqb, ne_eqb}
use Rattle.std.proofs.Math.Dec.{eqb-suc-zero}
use Rattle.std.proofs.Math.ListN.{get_or-eq_default}
use Rattle.number.specs.Number.{sign_of}
use Rattle.tables.specs.declared.Sizes.{Sizes}
use Rattle.tables.specs.Grammar.{Grammar, grammar}
use Rattle.tables.specs.Entry.{entry_at, action_of, action_at, goto_of, goto_at}
use Rattle.tables.specs.Signing.{signing}
use Rattle.tables.specs.Filled.{signed_action, filled_action, filled_action_at}
use Rattle.tables.specs.Laws.Size.{SigningFits, signing_fits_lem, table_fits_lem}
use Rattle.tables.specs.Laws.Grammar.{Inner}
use Rattle.tables.specs.Laws.Entry.{TermOk, NontermOk}
use Rattle.tables.specs.Laws.Signing.{RuleSigned, unsigned, by-rule as signed-by}
use Rattle.tables.specs.Laws.Judgement.{WellFormed}
use Rattle.reads.specs.Reads.{Act, shift, reduce, accept, blank, malformed, Go, goes, nowhere, broken, Reads}
use Rattle.machine.specs.Reads.{act_of, go_of, plain_reads, unsigned_reads}
use Rattle.machine.specs.Laws.Simulation.{Rule}
use Rattle.soundness.specs.Path.{Edge, by-shift, by-goto}
use Rattle.soundness.specs.Verdict.{by-rule, by-accept}
use Rattle.soundness.specs.Laws.Reached.{Bounded}
use Rattle.soundness.specs.Laws.Check.{RulesIn}

-- what demand 3 asks of grammar and tables: u is the unsigned table, v the filled one
pub record Proper (g : Grammar) (u v : Reads) : Type 0 where
  pub some-rule : 1 ≤ g.G
  pub start_left : g.left 1 ≡ g.T
  pub some-terminal : 0 < g.T
  pub lefts : (r : ℕ) → Rule g r → Inner g.T g.M (g.left r)
  pub rules : (s a r : ℕ) → a < g.T → v.act s a ≡ reduce r → Rule g r
  pub no-shift-of-end : (s t : ℕ) → u.act s 0 ≢ shift t
  pub accepts-at-end : (s a : ℕ) → a < g.T → u.act s a ≡ accept → a ≡ 0
  pub no_return : (p x t : ℕ) → Edge g u p x t → t ≢ 0

-- what the unsigned table says in column a
abbrev ActIn : Sizes → ℕ → ℕ → Act → Type 0
ActIn z states a (shift t) = (t ≢ 0) × (t < states) × (a ≢ 0)
ActIn z states a (reduce r) = Unit {0}
ActIn z states a accept = a ≡ 0
ActIn z states a blank = Unit {0}
ActIn z states a malformed = Unit {0}

abbrev GoIn : ℕ → Go → Type 0
GoIn states (goes t) = (t ≢ 0) × (t < states)
GoIn states nowhere = Unit {0}
GoIn states broken = Unit {0}

module _ (z : Sizes) (states : ℕ) where
  act-in : (a : ℕ) (e : ℤ) → TermOk z states a e → ActIn z states a (act_of (action_of (sign_of e)))
  act-in a (pos zero) k = tt
  act-in a (pos (suc t)) k = rw (eqb-suc-zero t) (λ q. omega arith, k.0, k.1)
  act-in a (negsuc zero) k = k
  act-in a (negsuc (suc r)) k = rw (ne_eqb (suc (suc r)) 1 (λ q. omega arith)) tt

  go-in : (x : ℕ) (e : ℤ) → NontermOk z states x e → GoIn states (go_of (goto_of (sign_of e)))
  go-in x (pos zero) k = tt
  go-in x (pos (suc t)) k = rw (eqb-suc-zero t) (λ q. omega arith, k.0)
  go-in x (negsuc r) k = absurd k

-- what the filled table reduces by
abbrev RuleIn : ℕ → Act → Type 0
RuleIn G (shift t) = Unit {0}
RuleIn G (reduce r) = (2 ≤ r) × (r ≤ G)
RuleIn G accept = Unit {0}
RuleIn G blank = Unit {0}
RuleIn G malformed = Unit {0}

module _ (z : Sizes) (states : ℕ) where
  signed-in : (n : ℕ) → RuleSigned z.rules n → RuleIn z.rules (act_of (signed_action n))
  unfolding signed_action
  signed-in n (unsigned e) = rw (eq-eqb n 0 e) tt
  signed-in n (signed-by l h) = rw (ne_eqb n 0 (λ q. omega arith)) (l, h)

  rule-in : (a n : ℕ) (e : ℤ) → TermOk z states a e → RuleSigned z.rules n → RuleIn z.rules (act_of (filled_action n (action_of (sign_of e))))
  rule-in a n (pos zero) k s = signed-in n s
  rule-in a n (pos (suc t)) k s = rw (eqb-suc-zero t) tt
  rule-in a n (negsuc zero) k s = tt
  rule-in a n (negsuc (suc r)) k s = rw (ne_eqb (suc (suc r)) 1 (λ q. omega arith)) (omega arith, k)

module _ {z : Sizes} {states : ℕ} {left lens rights : List ℕ} {table : List ℤ} {srule sgoto : List ℕ} (w : WellFormed z states left lens rights table srule sgoto) where
  fits : SigningFits z states srule sgoto
  fits = signing_fits_lem z states srule sgoto w.all.signing

  -- below the last row there is nothing
  below_none : (s a : ℕ) → states ≤ s → entry_at z table s a ≡ pos 0
  unfolding entry_at
  below_none s a h =
      get_or-eq_default table (pos 0)
      (let l : states * z.symbols ≤ s * z.symbols = mul-le-mul_right z.symbols h in omega (arith, table_fits_lem z states table w.all.table-size))

  term-ok : (s a : ℕ) → a < z.terminals → TermOk z states a (entry_at z table s a)
  term-ok s a h = by (ltb s states) refl
    where
      by : (b : Bool) → ltb s states ≡ b → TermOk z states a (entry_at z table s a)
      by true q = w.entries.terms s a (ltb-true _ _ q) h
      by false q = rw (below_none s a (ltb-false _ _ q)) tt

  nonterm-ok : (s x : ℕ) → z.terminals ≤ x → x < z.symbols → NontermOk z states x (entry_at z table s x)
  nonterm-ok s x l h = by (ltb s states) refl
    where
      by : (b : Bool) → ltb s states ≡ b → NontermOk z states x (entry_at z table s x)
      by true q = w.entries.nonterms s x (ltb-true _ _ q) l h
      by false q = rw (below_none s x (ltb-false _ _ q)) tt

  acts-in : (s a : ℕ) → a < z.terminals → ActIn z states a ((unsigned_reads z table).act s a)
  unfolding unsigned_reads action_at
  acts-in s a h = act-in z states a (entry_at z table s a) (term-ok s a h)

  gos-in : (s x : ℕ) → z.terminals ≤ x → x < z.symbols → GoIn states ((unsigned_reads z table).go s x)
  unfolding unsigned_reads goto_at
  gos-in s x l h = go-in z states x (entry_at z table s x) (nonterm-ok s x l h)

  rules-all : (s a : ℕ) → a < z.terminals → RuleIn z.rules ((plain_reads z table srule sgoto).act s a)
  unfolding plain_reads filled_action_at action_at signing
  rules-all s a h = rule-in z states a (get_or srule s 0) (entry_at z table s a) (term-ok s a h) (w.signatures.rules s)

  edge_in : (p x t : ℕ) → Edge (grammar z left lens rights) (unsigned_reads z table) p x t → (t ≢ 0) × (t < states)
  unfolding grammar
  edge_in p x t (by-shift h e) = let k : (t ≢ 0) × (t < states) × (x ≢ 0) = rw e at (acts-in p x h) in (k.0, k.1)
  edge_in p x t (by-goto l h e) = rw e at (gos-in p x l h)

  -- every edge leads to a state below L
  pub well-bounded : Bounded (grammar z left lens rights) (unsigned_reads z table) states
  unfolding grammar
  well-bounded =
      record {
        start-in = omega (arith, fits.count.least);
        symbols-in = omega (arith, fits.numbers.symbols.least);
        edges-in = λ p x t e. (edge_in p x t e).1;
      }

  rule-of : (s a r : ℕ) → a < z.terminals → (plain_reads z table srule sgoto).act s a ≡ reduce r → Rule (grammar z left lens rights) r
  unfolding grammar
  rule-of s a r h e = let k : (2 ≤ r) × (r ≤ z.rules) = rw e at (rules-all s a h) in record { low = k.0; high = k.1 }

  pub well-proper : Proper (grammar z left lens rights) (unsigned_reads z table) (plain_reads z table srule sgoto)
  unfolding grammar
  well-proper =
      record {
        some-rule = fits.numbers.rules.least;
        start_left = w.rules.first.start;
        some-terminal = omega (arith, fits.numbers.terminals.least);
        lefts = λ r k. (w.rules.later r k.low k.high).from;
        rules = rule-of;
        no-shift-of-end = λ s t e.
            let k : (t ≢ 0) × (t < states) × (◌≢◌ {A = ℕ} 0 0) = rw e at (acts-in s 0 (omega (arith, fits.numbers.terminals.least))) in
            k.2 refl;
        accepts-at-end = λ s a h e. rw e at (acts-in s a h);
        no_return = λ p x t e. (edge_in p x t e).0;
      }

-- every filled row reduces by rules 1..G
pub proper-rules : {g : Grammar} {u v : Reads} → Proper g u v → RulesIn g v
proper-rules k s r (by-rule a h e) = let q : Rule _ r = k.rules s a r h e in (omega (arith, q.low), q.high)
proper-rules k s r (by-accept a h e) = (omega arith, k.some-rule)
