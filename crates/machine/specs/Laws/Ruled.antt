-- The filled table of what is well formed reduces by rules of the grammar alone. Assumes nothing.
use Rattle.std.specs.Prelude.{◌≡◌, refl, Bool, true, false, cond, List, ℕ, zero, suc, ◌+◌, ◌*◌, ◌%◌, ◌≤◌, ◌<◌, eqb, ltb, ℤ, pos, negsuc, length, get_or}
use Rattle.std.proofs.Common.{arith, eq-eqb, ne_eqb, ltb-true, ltb-false}
use Rattle.std.proofs.lemmas.List.{get_or_past}
use Rattle.number.specs.Number.{sign_of}
use Rattle.tables.specs.declared.Sizes.{Sizes}
use Rattle.tables.specs.declared.Action.{Action}
use Rattle.tables.specs.declared.Action.TheVariants.{Blank, Shift, Reduce, Accept}
use Rattle.tables.specs.Entry.{entry_at, good_entry, good_at, action_of, action_at}
use Rattle.tables.specs.Filled.{signed_action, filled_action, filled_action_at}
use Rattle.tables.specs.Signing.{signing}
use Rattle.tables.specs.Verdict.{Passed}
use Rattle.tables.specs.Laws.Size.{GrammarFits, grammar_fits_lem, table_fits_lem}
use Rattle.tables.specs.Laws.Entry.{TermOk, NontermOk, term-ok, nonterm-ok, ok-table}
use Rattle.tables.specs.Laws.Signing.{RuleSigned, unsigned, by-rule}
use Rattle.tables.specs.Laws.Judgement.{WellFormed}
use Rattle.tables.specs.Laws.Filled.{rule-some}
use Rattle.machine.specs.Reads.{Ruled}

module _ (z : Sizes) where
  -- a reduction is by a rule of the grammar
  abbrev Low : Action → Type 0
  Low Blank = Unit {0}
  Low (Shift t) = Unit {0}
  Low (Reduce r) = r ≤ z.rules
  Low Accept = Unit {0}

  signed-low : (r : ℕ) → RuleSigned z.rules r → Low (signed_action r)
  unfolding signed_action
  signed-low r (unsigned e) = rw (eq-eqb r 0 e) tt
  signed-low r (by-rule l h) = rw (ne_eqb r 0 (λ q. omega arith)) h

  filled-low : (q : ℕ) (x : Action) → RuleSigned z.rules q → Low x → Low (filled_action q x)
  filled-low q Blank s h = signed-low q s
  filled-low q (Shift t) s h = tt
  filled-low q (Reduce r) s h = h
  filled-low q Accept s h = tt

  term-low : (states a : ℕ) (e : ℤ) → TermOk z states a e → Low (action_of (sign_of e))
  term-low states a (pos n) k = by (eqb n 0)
    where
      by : (b : Bool) → Low (cond b Blank (Shift n))
      by true = tt
      by false = tt
  term-low states a (negsuc zero) k = tt
  term-low states a (negsuc (suc r)) k = rw (ne_eqb (suc (suc r)) 1 (λ q. omega arith)) k

  nonterm-low : (states a : ℕ) (e : ℤ) → NontermOk z states a e → Low (action_of (sign_of e))
  nonterm-low states a (pos n) k = by (eqb n 0)
    where
      by : (b : Bool) → Low (cond b Blank (Shift n))
      by true = tt
      by false = tt
  nonterm-low states a (negsuc r) k = absurd k

  good-low : (states a : ℕ) (e : ℤ) → good_entry z states a e ≡ true → Low (action_of (sign_of e))
  good-low states a e g = by (ltb a z.terminals) refl
    where
      by : (b : Bool) → ltb a z.terminals ≡ b → Low (action_of (sign_of e))
      by true h = term-low states a e (term-ok z states a e (ltb-true _ _ h) g)
      by false h = nonterm-low states a e (nonterm-ok z states a e (ltb-false _ _ h) g)

  at-low : (states : ℕ) (table : List ℤ) → Passed (good_at z states table) (length table) → (i : ℕ) → Low (action_of (sign_of (get_or table i (pos 0))))
  at-low states table p i = by (ltb i (length table)) refl
    where
      by : (b : Bool) → ltb i (length table) ≡ b → Low (action_of (sign_of (get_or table i (pos 0))))
      by true h = good-low states (i % z.symbols) (get_or table i (pos 0)) (p i (ltb-true _ _ h))
      by false h = rw (get_or_past table i (pos 0) (ltb-false _ _ h)) tt

module _ {z : Sizes} {states : ℕ} {left lens rights : List ℕ} {table : List ℤ} {srule sgoto : List ℕ} (w : WellFormed z states left lens rights table srule sgoto) where
  pub filled-ruled : Ruled z table srule
  unfolding filled_action_at action_at entry_at signing
  filled-ruled s a r e =
      let g : GrammarFits z left lens rights = grammar_fits_lem z left lens rights w.all.grammar in
      let n : 0 < z.symbols = omega (arith, g.numbers.symbols.least) in
      let p : Passed (good_at z states table) (length table) = ok-table z states table (table_fits_lem z states table w.all.table-size) n w.entries in
      let k : Low z (filled_action (get_or srule s 0) (action_of (sign_of (get_or table (s * z.symbols + a) (pos 0))))) =
      filled-low z (get_or srule s 0) _ (w.signatures.rules s) (at-low z states table p (s * z.symbols + a)) in
      rw e at k

-- such a table's rules are what a move may count on
pub ruled_sound : (z : Sizes) (table : List ℤ) (srule : List ℕ) → Ruled z table srule → (s a r : ℕ) → filled_action_at z table srule s a ≡ Reduce r → (0 < r) × (r ≤ z.rules)
ruled_sound z table srule h s a r e = (rule-some _ _ _ _ _ e, h s a r e)
