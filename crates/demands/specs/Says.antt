-- 'What is said back', entry point by entry point: each answer, the condition under which it is given, and what the lent arrays then hold.
use Rattle.std.specs.Prelude.{◌≡◌, ◌≢◌, true, false, List, [], ◌∷◌, ℕ, ◌+◌, ℤ, length, Option, Some, None}
use Rattle.std.proofs.Math.Option.{none, some}
use Rattle.tables.specs.declared.Sizes.{Sizes}
use Rattle.tables.specs.Said.{Said, OK, SIZE, GRAMMAR, NOROOM, UNSOUND, BADCELL}
use Rattle.tables.specs.Size.{grammar_fits}
use Rattle.tables.specs.Grammar.{grammar, good_rule}
use Rattle.tables.specs.Judgement.{judgement, grammar_judgement}
use Rattle.tables.specs.Verdict.{Passed, Least}
use Rattle.reads.specs.declared.Way.TheVariants.{Direct, Pointer}
use Rattle.reads.specs.declared.Read.{Read}
use Rattle.reads.specs.declared.Read.TheVariants.{Shift, Reduce, Accept, Blank}
use Rattle.cells.specs.Read.{twice, cells_of, read_cell}
use Rattle.cells.specs.Asked.{kind_of, read_fits}
use Rattle.packing.specs.Job.{job_of}
use Rattle.packing.specs.Bench.{Bench}
use Rattle.packing.specs.Packed.{Packed, pack}
use Rattle.packing.specs.Packing.{Result, packing_result, arrays_fit}
use Rattle.packing.specs.Turns.{wiped}
use Rattle.packing.specs.Written.{bench}
use Rattle.machine.specs.Reads.{plain_reads, unsigned_reads}
use Rattle.machine.specs.Machine as machine
use Rattle.machine.specs.Outcome.{Outcome, unchanged, leaves, job_fits, job}
use Rattle.cells.specs.Reads.{cell_reads}
use Rattle.parser.specs.Outcome.{packed_fits}
use Rattle.soundness.specs.Verdict.{Sound, Unsound}
use Rattle.demands.specs.Moves.{RunEnds}

module _ (z : Sizes) (left lens rights : List ℕ) where
  -- SIZE, GRAMMAR: what a parse with cells begins with
  pub data SaysGrammar : Said → Type 0 where
    size : grammar_fits z left lens rights ≡ false → SaysGrammar SIZE
    rule : (i : ℕ) → grammar_fits z left lens rights ≡ true → Least (good_rule z left lens rights) z.rules i → SaysGrammar (GRAMMAR (i + 1))
    good : grammar_fits z left lens rights ≡ true → Passed (good_rule z left lens rights) z.rules → SaysGrammar (OK [])

  -- a parse with cells
  pub data SaysParse (base check : List ℤ) (tokens : List ℕ) (limit : ℕ) (stack list : List ℕ) : Outcome → Type 0 where
    size : packed_fits base check tokens limit ≡ false → SaysParse base check tokens limit stack list (unchanged SIZE stack list)
    refused : packed_fits base check tokens limit ≡ true → (grammar_judgement z left lens rights).number ≢ 0
        → SaysParse base check tokens limit stack list (unchanged (grammar_judgement z left lens rights) stack list)
    ended : packed_fits base check tokens limit ≡ true → grammar_judgement z left lens rights ≡ OK [] → (r : machine.Result)
        → RunEnds (grammar z left lens rights) (cell_reads z.rules base check) (job tokens stack list) limit r
        → SaysParse base check tokens limit stack list (leaves r stack list)

module _ (z : Sizes) (base check : List ℤ) (x a : ℕ) where
  -- what the cells answer for symbol a at cell x
  abbrev pub answer : Option Read
  answer = read_cell (kind_of z a) (cells_of z.rules twice base check) x a

  -- a read by itself
  pub data SaysRead : Said → Type 0 where
    size : read_fits z base check a ≡ false → SaysRead SIZE
    bad-cell : read_fits z base check a ≡ true → answer ≡ None → SaysRead (BADCELL x)
    direct : (y : ℕ) → read_fits z base check a ≡ true → answer ≡ Some (Shift (Direct y)) → SaysRead (OK (0 ∷ y ∷ []))
    pointer : (y : ℕ) → read_fits z base check a ≡ true → answer ≡ Some (Shift (Pointer y)) → SaysRead (OK (1 ∷ y ∷ []))
    reduce : (r : ℕ) → read_fits z base check a ≡ true → answer ≡ Some (Reduce r) → SaysRead (OK (2 ∷ r ∷ []))
    accept : read_fits z base check a ≡ true → answer ≡ Some Accept → SaysRead (OK (3 ∷ []))
    blank : read_fits z base check a ≡ true → answer ≡ Some Blank → SaysRead (OK (4 ∷ []))

module _ (z : Sizes) (states : ℕ) (left lens rights : List ℕ) (table : List ℤ) (srule sgoto : List ℕ) where
  -- SIZE, GRAMMAR, ENTRY, SIGN: what the others begin with
  abbrev pub judged : Said
  judged = judgement z states left lens rights table srule sgoto

  -- pack, with the four arrays
  pub data SaysPack (B : Bench) : Result → Type 0 where
    size : arrays_fit states B ≡ false → SaysPack B (packing_result SIZE B)
    refused : arrays_fit states B ≡ true → judged.number ≢ 0 → SaysPack B (packing_result judged B)
    no_room : arrays_fit states B ≡ true → judged ≡ OK [] → pack (job_of twice z states table srule sgoto) (length B.bases) ≡ none → SaysPack B (packing_result NOROOM (wiped 0 B))
    placed : arrays_fit states B ≡ true → judged ≡ OK [] → (A : Packed) → pack (job_of twice z states table srule sgoto) (length B.bases) ≡ some A
        → SaysPack B (packing_result (OK (A.count ∷ [])) (bench A.bases A.checks A.marks A.places))

  -- a parse with the plain table
  pub data SaysPlain (tokens : List ℕ) (limit : ℕ) (stack list : List ℕ) : Outcome → Type 0 where
    size : job_fits tokens limit ≡ false → SaysPlain tokens limit stack list (unchanged SIZE stack list)
    refused : job_fits tokens limit ≡ true → judged.number ≢ 0 → SaysPlain tokens limit stack list (unchanged judged stack list)
    ended : job_fits tokens limit ≡ true → judged ≡ OK [] → (r : machine.Result)
        → RunEnds (grammar z left lens rights) (plain_reads z table srule sgoto) (job tokens stack list) limit r
        → SaysPlain tokens limit stack list (leaves r stack list)

  -- the check
  pub data SaysCheck : Said → Type 0 where
    refused : judged.number ≢ 0 → SaysCheck judged
    sound : judged ≡ OK [] → Sound (grammar z left lens rights) (unsigned_reads z table) (plain_reads z table srule sgoto) → SaysCheck (OK [])
    unsound : (s r : ℕ) → judged ≡ OK [] → Unsound (grammar z left lens rights) (unsigned_reads z table) (plain_reads z table srule sgoto) s r → SaysCheck (UNSOUND s r)
