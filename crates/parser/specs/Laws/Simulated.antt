-- Cells that were packed read as the filled table, each state carried to its cell: so a parse with them is the plain machine's. Assumes nothing.
use Rattle.std.specs.Prelude.{◌≡◌, true, List, [], ℕ, ◌≤◌, ℤ, get_or, Option, Some, None}
use Rattle.std.proofs.Common.{sym, ap, ◌∙◌, arith}
use Rattle.std.proofs.Math.Option.{some}
use Rattle.tables.specs.declared.Sizes.{Sizes}
use Rattle.tables.specs.declared.Action.{Action}
use Rattle.tables.specs.declared.Action.TheVariants as action
use Rattle.tables.specs.Said.{OK}
use Rattle.tables.specs.Grammar.{grammar}
use Rattle.tables.specs.Judgement.{judgement}
use Rattle.tables.specs.Filled.{filled_action_at, filled_goto_at}
use Rattle.tables.specs.Laws.Judgement.{ok-means}
use Rattle.reads.specs.declared.Read.{Read}
use Rattle.reads.specs.Reads.{shift, goes, act_said, go_said}
use Rattle.cells.specs.Read.{twice}
use Rattle.cells.specs.Size.{cells_fit}
use Rattle.cells.specs.Laws.Size.{fit-cells}
use Rattle.packing.specs.Job.{job_of}
use Rattle.packing.specs.Packed.{Packed, pack}
use Rattle.packing.specs.Valid.{Valid, Edition}
use Rattle.packing.specs.Promises.{Carries, CarriesGoto, Housed, Sized}
use Rattle.packing.specs.Theorems as packing
use Rattle.machine.specs.Reads as machine
use Rattle.machine.specs.Reads.{plain_reads}
use Rattle.machine.specs.Machine.{Job, start, parse}
use Rattle.machine.specs.Outcome.{job, plain_parse}
use Rattle.machine.specs.Carry.{carry_act, carry_go, carry_step}
use Rattle.machine.specs.Laws.Simulation.{CarriesBelow, carries-below}
use Rattle.machine.specs.Steps.{steps}
use Rattle.machine.specs.Laws.Steps.{steps-carried}
use Rattle.machine.specs.Laws.Whole.{plain-whole, parse-equal}
use Rattle.machine.specs.Laws.Plain.{plain_carried}
use Rattle.cells.specs.Reads.{cell_reads}
use Rattle.parser.specs.Outcome.{packed_fits, packed_parse}
use Rattle.parser.specs.Laws.Judged.{grammar-good}

-- ---- a read that carries an entry

module _ (places : List ℕ) (r : Option Read) where
  act-carried : (a : Action) → Carries places r a → act_said r ≡ carry_act (λ s. get_or places s 0) (machine.act_of a)
  act-carried action.Blank h = ap act_said h
  act-carried (action.Shift t) h = ap act_said h.2 ∙ ap shift h.1
  act-carried (action.Reduce q) h = ap act_said h
  act-carried action.Accept h = ap act_said h

  go-carried : (x : Option ℕ) → CarriesGoto places r x → go_said r ≡ carry_go (λ s. get_or places s 0) (machine.go_of x)
  go-carried None h = ap go_said h
  go-carried (Some t) h = ap go_said h.2 ∙ ap goes h.1

-- ---- packed cells

module _ (z : Sizes) (states : ℕ) (left lens rights : List ℕ) (table : List ℤ) (srule sgoto : List ℕ)
    (good : judgement z states left lens rights table srule sgoto ≡ OK [])
    (W : ℕ) (A : Packed) (packed : pack (job_of twice z states table srule sgoto) W ≡ some A) where
  -- each state's cell
  abbrev pub cell : ℕ → ℕ
  cell s = get_or A.places s 0

  abbrev valid : Valid z states table srule sgoto
  valid = packing.judged z states left lens rights table srule sgoto good

  abbrev edition : Edition z.terminals twice
  edition = packing.this-edition z.terminals

  pub cells-carried : CarriesBelow (grammar z left lens rights) (plain_reads z table srule sgoto) (cell_reads z.rules A.bases A.checks) states cell
  unfolding cell_reads plain_reads
  cells-carried =
      plain_carried (ok-means z states left lens rights table srule sgoto good)
      (packing.housed z states table srule sgoto valid twice edition W A packed).start
      (λ s a h k. act-carried A.places _ (filled_action_at z table srule s a) (packing.reads-action z states table srule sgoto valid twice edition W A packed s a h k))
      (λ s x h k l. go-carried A.places _ (filled_goto_at z table sgoto s x) (packing.reads-goto z states table srule sgoto valid twice edition W A packed s x h (omega arith) l))

  -- move by move
  pub steps-same : (j : Job) (k : ℕ)
      → steps (grammar z left lens rights) (cell_reads z.rules A.bases A.checks) j k start
      ≡ carry_step cell (steps (grammar z left lens rights) (plain_reads z table srule sgoto) j k start)
  steps-same j k =
      let c = carries-below cells-carried in
      rw c.start-there at (steps-carried c j k start c.start-in)

  -- the whole parse
  pub parse-same : (j : Job) (limit : ℕ)
      → parse (grammar z left lens rights) (cell_reads z.rules A.bases A.checks) j limit ≡ parse (grammar z left lens rights) (plain_reads z table srule sgoto) j limit
  parse-same j limit = parse-equal (carries-below cells-carried) (plain-whole z table srule sgoto) j limit

  -- the cells fit where W does
  pub packed-fit : W ≤ 65536 → cells_fit A.bases A.checks ≡ true
  packed-fit l =
      let s : Sized W states A = packing.sized z states table srule sgoto valid twice edition W A packed in
      let h : Housed W states A.places = packing.housed z states table srule sgoto valid twice edition W A packed in
      let p = h.inside 0 cells-carried.start-in in
      fit-cells A.bases A.checks (record { least = omega (arith, s.bases, p); most = omega (arith, s.bases); same = s.checks ∙ sym s.bases })

  -- all that is said and left
  pub outcome-same : W ≤ 65536 → (tokens : List ℕ) (limit : ℕ) (stack list : List ℕ)
      → packed_parse z left lens rights A.bases A.checks tokens limit stack list ≡ plain_parse z states left lens rights table srule sgoto tokens limit stack list
  unfolding packed_parse packed_fits plain_parse
  outcome-same l tokens limit stack list =
      rw (packed-fit l, grammar-good z states left lens rights table srule sgoto good, good, parse-same (job tokens stack list) limit)
