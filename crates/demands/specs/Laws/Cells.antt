-- What an entry point says is what its rows say, and nothing else: a read, and a parse with cells. Assumes nothing.
use Rattle.std.specs.Prelude.{◌≡◌, refl, ◌↔◌, ◌⊎◌, Bool, true, false, List, [], ℕ, ◌≤◌, ℤ, Option, Some, None}
use Rattle.std.proofs.Common.{inl, inr, arith, ne_eqb}
use Rattle.tables.specs.declared.Sizes.{Sizes}
use Rattle.std.specs.Prelude.{Option}
use Rattle.std.specs.Prelude.{Some, None}
use Rattle.tables.specs.Said.{Said, OK}
use Rattle.tables.specs.Lists.{lowest}
use Rattle.tables.specs.Size.{grammar_fits}
use Rattle.tables.specs.Grammar.{grammar, good_rule, lowest_rule}
use Rattle.tables.specs.Judgement.{grammar_judgement}
use Rattle.tables.specs.Laws.Lowest.{at_least, nowhere-passed, lowest-at, lowest-nowhere}
use Rattle.reads.specs.declared.Way.TheVariants.{Direct, Pointer}
use Rattle.reads.specs.declared.Read.{Read}
use Rattle.reads.specs.declared.Read.TheVariants.{Shift, Reduce, Accept, Blank}
use Rattle.cells.specs.Asked.{read_fits, read_said}
use Rattle.machine.specs.Outcome.{Outcome, job, judged_then}
use Rattle.cells.specs.Reads.{cell_reads}
use Rattle.parser.specs.Outcome.{packed_fits, packed_parse}
use Rattle.demands.specs.Says.{SaysGrammar, SaysParse, answer, SaysRead}
use Rattle.demands.specs.Laws.Rows.{exactly}
use Rattle.demands.specs.Laws.Runs.{parse-ends, ends-parse}

-- ---- a grammar

module _ (z : Sizes) (left lens rights : List ℕ) where
  abbrev rule_at : ℕ → Bool
  rule_at = good_rule z left lens rights

  grammar-only : (s : Said) → SaysGrammar z left lens rights s → grammar_judgement z left lens rights ≡ s
  unfolding grammar_judgement lowest_rule
  grammar-only s (SaysGrammar.size f) = rw f
  grammar-only s (SaysGrammar.rule i f l) = rw (f, lowest-at rule_at z.rules i l.0 l.1 l.2)
  grammar-only s (SaysGrammar.good f p) = rw (f, lowest-nowhere rule_at z.rules p)

  grammar-some : (s : Said) × SaysGrammar z left lens rights s
  grammar-some = by (grammar_fits z left lens rights) refl (lowest rule_at z.rules) refl
    where
      by : (b : Bool) → grammar_fits z left lens rights ≡ b → (l : Option ℕ) → lowest rule_at z.rules ≡ l → (s : Said) × SaysGrammar z left lens rights s
      by false f l e = (_, SaysGrammar.size f)
      by true f (Some i) e = (_, SaysGrammar.rule i f (at_least rule_at z.rules i e))
      by true f None e = (_, SaysGrammar.good f (nowhere-passed rule_at z.rules e))

  pub grammar-exactly : (s : Said) → (grammar_judgement z left lens rights ≡ s) ↔ SaysGrammar z left lens rights s
  grammar-exactly = exactly (SaysGrammar z left lens rights) grammar-only grammar-some

  -- it refuses nothing, or says 1 or 2
  pub grammar-cases : (grammar_judgement z left lens rights ≡ OK []) ⊎ ((1 ≤ (grammar_judgement z left lens rights).number) × ((grammar_judgement z left lens rights).number ≤ 2))
  grammar-cases = by ((grammar-exactly (grammar_judgement z left lens rights)).0 refl)
    where
      by : {s : Said} → SaysGrammar z left lens rights s → (s ≡ OK []) ⊎ ((1 ≤ s.number) × (s.number ≤ 2))
      by (SaysGrammar.size f) = inr (omega arith, omega arith)
      by (SaysGrammar.rule i f l) = inr (omega arith, omega arith)
      by (SaysGrammar.good f p) = inl refl

-- ---- a parse with cells

module _ (z : Sizes) (left lens rights : List ℕ) (base check : List ℤ) (tokens : List ℕ) (limit : ℕ) (stack list : List ℕ) where
  abbrev Says : Outcome → Type 0
  Says = SaysParse z left lens rights base check tokens limit stack list

  parse-only : (o : Outcome) → Says o → packed_parse z left lens rights base check tokens limit stack list ≡ o
  unfolding packed_parse judged_then
  parse-only o (SaysParse.size f) = rw f
  parse-only o (SaysParse.refused f n) = rw (f, ne_eqb (grammar_judgement z left lens rights).number 0 n)
  parse-only o (SaysParse.ended f e r k) =
      rw (f, e, ends-parse (grammar z left lens rights) (cell_reads z.rules base check) (job tokens stack list) limit r k)

  parse-some : (o : Outcome) × Says o
  parse-some = by (packed_fits base check tokens limit) refl (grammar-cases z left lens rights)
    where
      by : (b : Bool) → packed_fits base check tokens limit ≡ b
          → (grammar_judgement z left lens rights ≡ OK []) ⊎ ((1 ≤ (grammar_judgement z left lens rights).number) × ((grammar_judgement z left lens rights).number ≤ 2))
          → (o : Outcome) × Says o
      by false f c = (_, SaysParse.size f)
      by true f (inl e) = (_, SaysParse.ended f e _ (parse-ends (grammar z left lens rights) (cell_reads z.rules base check) (job tokens stack list) limit))
      by true f (inr n) = (_, SaysParse.refused f (λ e. omega arith))

  pub parse-exactly : (o : Outcome) → (packed_parse z left lens rights base check tokens limit stack list ≡ o) ↔ Says o
  parse-exactly = exactly Says parse-only parse-some

-- ---- a read by itself

module _ (z : Sizes) (base check : List ℤ) (x a : ℕ) where
  read_only : (s : Said) → SaysRead z base check x a s → read_said z base check x a ≡ s
  unfolding read_said
  read_only s (SaysRead.size f) = rw f
  read_only s (SaysRead.bad-cell f e) = rw (f, e)
  read_only s (SaysRead.direct y f e) = rw (f, e)
  read_only s (SaysRead.pointer y f e) = rw (f, e)
  read_only s (SaysRead.reduce r f e) = rw (f, e)
  read_only s (SaysRead.accept f e) = rw (f, e)
  read_only s (SaysRead.blank f e) = rw (f, e)

  read_some : (s : Said) × SaysRead z base check x a s
  read_some = by (read_fits z base check a) refl (answer z base check x a) refl
    where
      by : (b : Bool) → read_fits z base check a ≡ b → (r : Option Read) → answer z base check x a ≡ r → (s : Said) × SaysRead z base check x a s
      by false f r e = (_, SaysRead.size f)
      by true f None e = (_, SaysRead.bad-cell f e)
      by true f (Some (Shift (Direct y))) e = (_, SaysRead.direct y f e)
      by true f (Some (Shift (Pointer y))) e = (_, SaysRead.pointer y f e)
      by true f (Some (Reduce r)) e = (_, SaysRead.reduce r f e)
      by true f (Some Accept) e = (_, SaysRead.accept f e)
      by true f (Some Blank) e = (_, SaysRead.blank f e)

  pub read-exactly : (s : Said) → (read_said z base check x a ≡ s) ↔ SaysRead z base check x a s
  read-exactly = exactly (SaysRead z base check x a) read_only read_some
