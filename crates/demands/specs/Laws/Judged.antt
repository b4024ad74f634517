-- What an entry point says that begins with a judgement of grammar, table and signing is what its rows say, and nothing else: pack, the plain parse, the check. Assumes nothing.
use Rattle.std.specs.Prelude.{◌≡◌, refl, ◌↔◌, ◌⊎◌, Bool, true, false, List, [], ◌∷◌, ℕ, ◌≤◌, ℤ, length}
use Rattle.std.proofs.Common.{sym, ◌∙◌, inl, inr, arith, ne_eqb}
use Rattle.std.proofs.Math.Path.{ap}
use Rattle.std.proofs.Math.Option.{Option, none, some}
use Rattle.tables.specs.declared.Sizes.{Sizes}
use Rattle.tables.specs.Said.{Said, OK}
use Rattle.tables.specs.Grammar.{grammar}
use Rattle.tables.specs.Verdict as may
use Rattle.tables.specs.Laws.Judgement as tables
use Rattle.tables.specs.Laws.Numbers.{judged-cases}
use Rattle.cells.specs.Read.{twice}
use Rattle.packing.specs.Job.{job_of}
use Rattle.packing.specs.Bench.{Bench}
use Rattle.packing.specs.Packed.{Packed, pack, bench_of}
use Rattle.packing.specs.Packing.{Result, packing_result, arrays_fit, count_of, placed_by, packed}
use Rattle.packing.specs.Promises.{Sized}
use Rattle.packing.specs.Valid.{Valid}
use Rattle.packing.specs.Written.{bench}
use Rattle.packing.specs.Theorems as packing
use Rattle.machine.specs.Reads.{plain_reads, unsigned_reads}
use Rattle.machine.specs.Outcome.{Outcome, job_fits, job, judged_then, plain_parse}
use Rattle.soundness.specs.Verdict as verdict
use Rattle.soundness.specs.Check as check
use Rattle.soundness.specs.Outcome.{checked}
use Rattle.soundness.specs.Laws.Outcome.{checked_refused, checked-exact, good_right}
use Rattle.demands.specs.Says.{SaysPack, SaysPlain, SaysCheck, judged}
use Rattle.demands.specs.Laws.Runs.{parse-ends, ends-parse}
use Rattle.demands.specs.Laws.Rows.{exactly}

module _ (z : Sizes) (states : ℕ) (left lens rights : List ℕ) (table : List ℤ) (srule sgoto : List ℕ) where
  abbrev said : Said
  said = judged z states left lens rights table srule sgoto

  -- the judgement refuses nothing, or says 1 to 4
  abbrev Cases : Type 0
  Cases = (said ≡ OK []) ⊎ ((1 ≤ said.number) × (said.number ≤ 4))

  cases : Cases
  cases = judged-cases z states left lens rights table srule sgoto

  pub judge-exactly : (s : Said) → (said ≡ s) ↔ may.Verdict z states left lens rights table srule sgoto s
  judge-exactly =
      exactly (may.Verdict z states left lens rights table srule sgoto) (λ s k. sym (tables.only z states left lens rights table srule sgoto k))
      (said, tables.judged z states left lens rights table srule sgoto)

  -- ---- pack

  module _ (good : said ≡ OK []) (W : ℕ) (A : Packed) (there : pack (job_of twice z states table srule sgoto) W ≡ some A) where
    abbrev valid : Valid z states table srule sgoto
    valid = packing.judged z states left lens rights table srule sgoto good

    -- the count said is the board's
    count-said : count_of A.marks ≡ A.count
    count-said =
        let s : Sized W states A = packing.sized z states table srule sgoto valid twice (packing.this-edition z.terminals) W A there in
        packing.counts A.marks A.count (packing.counted z states table srule sgoto valid twice (packing.this-edition z.terminals) W A there)
        (omega (arith, s.marks, (packing.count-bound z states table srule sgoto valid twice (packing.this-edition z.terminals) W A there).0))

  module _ (B : Bench) where
    abbrev Packs : Result → Type 0
    Packs = SaysPack z states left lens rights table srule sgoto B

    pack-only : (o : Result) → Packs o → packed z states left lens rights table srule sgoto B ≡ o
    unfolding packed
    pack-only o (SaysPack.size f) = rw f
    pack-only o (SaysPack.refused f n) = rw (f, ne_eqb said.number 0 n)
    pack-only o (SaysPack.no_room f e q) =
        packing.answers z states left lens rights table srule sgoto B f e ∙ ap (λ (p : Option Packed). placed_by (bench_of p) B) q
    pack-only o (SaysPack.placed f e A q) =
        packing.answers z states left lens rights table srule sgoto B f e ∙ ap (λ (p : Option Packed). placed_by (bench_of p) B) q
        ∙ ap (λ (n : ℕ). packing_result (OK (n ∷ [])) (bench A.bases A.checks A.marks A.places)) (count-said e (length B.bases) A q)

    pack-some : (o : Result) × Packs o
    pack-some = by (arrays_fit states B) refl cases
      where
        at : arrays_fit states B ≡ true → said ≡ OK [] → (p : Option Packed) → pack (job_of twice z states table srule sgoto) (length B.bases) ≡ p → (o : Result) × Packs o
        at f e none q = (_, SaysPack.no_room f e q)
        at f e (some A) q = (_, SaysPack.placed f e A q)

        by : (b : Bool) → arrays_fit states B ≡ b → Cases → (o : Result) × Packs o
        by false f c = (_, SaysPack.size f)
        by true f (inl e) = at f e (pack (job_of twice z states table srule sgoto) (length B.bases)) refl
        by true f (inr n) = (_, SaysPack.refused f (λ e. omega arith))

    pub pack-exactly : (o : Result) → (packed z states left lens rights table srule sgoto B ≡ o) ↔ Packs o
    pack-exactly = exactly Packs pack-only pack-some

  -- ---- the plain parse

  module _ (tokens : List ℕ) (limit : ℕ) (stack list : List ℕ) where
    abbrev Parses : Outcome → Type 0
    Parses = SaysPlain z states left lens rights table srule sgoto tokens limit stack list

    plain-only : (o : Outcome) → Parses o → plain_parse z states left lens rights table srule sgoto tokens limit stack list ≡ o
    unfolding plain_parse judged_then
    plain-only o (SaysPlain.size f) = rw f
    plain-only o (SaysPlain.refused f n) = rw (f, ne_eqb said.number 0 n)
    plain-only o (SaysPlain.ended f e r k) =
        rw (f, e, ends-parse (grammar z left lens rights) (plain_reads z table srule sgoto) (job tokens stack list) limit r k)

    plain-some : (o : Outcome) × Parses o
    plain-some = by (job_fits tokens limit) refl cases
      where
        by : (b : Bool) → job_fits tokens limit ≡ b → Cases → (o : Outcome) × Parses o
        by false f c = (_, SaysPlain.size f)
        by true f (inl e) = (_, SaysPlain.ended f e _ (parse-ends (grammar z left lens rights) (plain_reads z table srule sgoto) (job tokens stack list) limit))
        by true f (inr n) = (_, SaysPlain.refused f (λ e. omega arith))

    pub plain-exactly : (o : Outcome) → (plain_parse z states left lens rights table srule sgoto tokens limit stack list ≡ o) ↔ Parses o
    plain-exactly = exactly Parses plain-only plain-some

  -- ---- the check

  abbrev Checks : Said → Type 0
  Checks = SaysCheck z states left lens rights table srule sgoto

  check-only : (s : Said) → Checks s → checked z states left lens rights table srule sgoto ≡ s
  check-only s (SaysCheck.refused n) = checked_refused z states left lens rights table srule sgoto n
  check-only s (SaysCheck.sound e k) = (checked-exact z states left lens rights table srule sgoto verdict.sound).1 (e, k)
  check-only s (SaysCheck.unsound p r e k) = (checked-exact z states left lens rights table srule sgoto (verdict.unsound p r)).1 (e, k)

  check-some : (s : Said) × Checks s
  check-some = by cases
    where
      at : said ≡ OK [] → (w : verdict.Verdict) → verdict.IsVerdict (grammar z left lens rights) (unsigned_reads z table) (plain_reads z table srule sgoto) w → (s : Said) × Checks s
      at e verdict.sound k = (_, SaysCheck.sound e k)
      at e (verdict.unsound p r) k = (_, SaysCheck.unsound p r e k)

      by : Cases → (s : Said) × Checks s
      by (inl e) =
          at e (check.verdict (grammar z left lens rights) (unsigned_reads z table) (plain_reads z table srule sgoto) states) (good_right z states left lens rights table srule sgoto e)
      by (inr n) = (_, SaysCheck.refused (λ e. omega arith))

  pub check-exactly : (s : Said) → (checked z states left lens rights table srule sgoto ≡ s) ↔ Checks s
  check-exactly = exactly Checks check-only check-some
