-- What packing promises. Each theorem is proved by one application of a law; Valid, Promises and SmallBoard have the definitions. Assumes nothing.
use Rattle.std.specs.Prelude.{◌≡◌, true, ℕ, ◌+◌, ◌-◌, ◌*◌, ◌≤◌, ◌<◌, List, [], ℤ, length, get_or}
use Rattle.std.proofs.Math.Option.{none, some}
use Rattle.tables.specs.declared.Sizes.{Sizes}
use Rattle.tables.specs.Said.{OK}
use Rattle.tables.specs.Filled.{filled_action_at, filled_goto_at}
use Rattle.tables.specs.Judgement.{judgement}
use Rattle.cells.specs.Read.{action, goto, twice, cells_of, read_cell}
use Rattle.packing.specs.Job.{job_of}
use Rattle.packing.specs.Bench.{Bench, placement_b}
use Rattle.packing.specs.Packed.{Packed, bound, pack, bench_of}
use Rattle.packing.specs.Valid.{Valid, Edition}
use Rattle.packing.specs.Promises.{Carries, CarriesGoto, IsCount, Housed, Sized, Room}
use Rattle.packing.specs.Laws.Valid.{edition-twice, edition-from}
use Rattle.packing.specs.Laws.Carried.{packed-action, packed-goto}
use Rattle.packing.specs.Laws.Answers.{job-machine, job-room, job-always, job-counted, job-count-bound, job-housed, job-sized}
use Rattle.packing.specs.Laws.Judged.{judged-valid}
use Rattle.packing.specs.Laws.Outcome.{by-board, count-is}
use Rattle.packing.specs.Packing.{arrays_fit, packed, placed_by, count_of}
use Rattle.packing.specs.SmallBoard.{small_sizes, small_table, small_rules, small_targets, small_job, small_packed}
use Rattle.packing.specs.Laws.SmallBoard.{small-packs, small-no-room, small-valid}

-- This edition has A's default target at 2A, the other one at 2(A - T); what follows holds for both.
pub this-edition : (T : ℕ) → Edition T twice
this-edition = edition-twice

pub other-edition : (T : ℕ) → Edition T (λ A. 2 * (A - T))
other-edition = edition-from

-- Where the judgement refuses nothing, table and signing are valid.
pub judged : (z : Sizes) (states : ℕ) (left lens rights : List ℕ) (table : List ℤ) (srule sgoto : List ℕ)
    → judgement z states left lens rights table srule sgoto ≡ OK [] → Valid z states table srule sgoto
judged = judged-valid

module _ (z : Sizes) (states : ℕ) (table : List ℤ) (srule sgoto : List ℕ) (valid : Valid z states table srule sgoto)
    (off : ℕ → ℕ) (edition : Edition z.terminals off) where
  -- Placement on the four arrays alone is packing.
  pub machine : (W : ℕ) → placement_b (job_of off z states table srule sgoto) W (bound (job_of off z states table srule sgoto)) ≡ bench_of (pack (job_of off z states table srule sgoto) W)
  machine = job-machine z states table srule sgoto valid off edition

  -- There is one number of cells, at most the bound, from which on packing succeeds; below it packing says NOROOM.
  pub room : Room (job_of off z states table srule sgoto)
  room = job-room z states table srule sgoto valid off edition

  -- The bound is 2M + L(4M + 4), and with so many cells NOROOM is never said.
  pub always : (W : ℕ) → 2 * z.symbols + states * (4 * z.symbols + 4) ≤ W → (A : Packed) × (pack (job_of off z states table srule sgoto) W ≡ some A)
  always = job-always z states table srule sgoto valid off edition

  module _ (W : ℕ) (A : Packed) (packed : pack (job_of off z states table srule sgoto) W ≡ some A) where
    -- PACKED: at each state and terminal, the cells read as the filled table, each state carried to its cell.
    pub reads-action : (s a : ℕ) → s < states → a < z.terminals
        → Carries A.places (read_cell action (cells_of z.rules off A.bases A.checks) (get_or A.places s 0) a) (filled_action_at z table srule s a)
    reads-action = packed-action z states table srule sgoto valid off edition W A packed

    -- PACKED: at each state and nonterminal.
    pub reads-goto : (s x : ℕ) → s < states → z.terminals ≤ x → x < z.symbols
        → CarriesGoto A.places (read_cell goto (cells_of z.rules off A.bases A.checks) (get_or A.places s 0) x) (filled_goto_at z table sgoto s x)
    reads-goto = packed-goto z states table srule sgoto valid off edition W A packed

    -- The count is the highest taken cell plus 1.
    pub counted : IsCount A.marks A.count
    counted = job-counted z states table srule sgoto valid off edition W A packed

    -- It is at most W, and at most the bound.
    pub count-bound : (A.count ≤ W) × (A.count ≤ 2 * z.symbols + states * (4 * z.symbols + 4))
    count-bound = job-count-bound z states table srule sgoto valid off edition W A packed

    -- State 0 is at cell 0, each state's two cells are inside, and no two states stand at the same cell.
    pub housed : Housed W states A.places
    housed = job-housed z states table srule sgoto valid off edition W A packed

    -- Base, Check and marks have W elements each, the place list has L.
    pub sized : Sized W states A
    sized = job-sized z states table srule sgoto valid off edition W A packed

-- What `pack` says, and what it leaves, where sizes fit and the judgement refuses nothing: what placement on the board says.
pub answers : (z : Sizes) (states : ℕ) (left lens rights : List ℕ) (table : List ℤ) (srule sgoto : List ℕ) (A : Bench)
    → arrays_fit states A ≡ true → judgement z states left lens rights table srule sgoto ≡ OK []
    → packed z states left lens rights table srule sgoto A ≡ placed_by (bench_of (pack (job_of twice z states table srule sgoto) (length A.bases))) A
answers = by-board

-- The count that it gives is the board's.
pub counts : (marks : List ℕ) (n : ℕ) → IsCount marks n → n ≤ length marks → count_of marks ≡ n
counts = count-is

-- The small board, signed as on its sheet, is valid, and is packed into the 21 cells of the paper; 20 are too few.
pub small-board-valid : Valid small_sizes 7 small_table small_rules small_targets
small-board-valid = small-valid

pub small-board : pack small_job 21 ≡ some small_packed
small-board = small-packs

pub small-board-20 : pack small_job 20 ≡ none
small-board-20 = small-no-room
