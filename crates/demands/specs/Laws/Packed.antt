-- What pack leaves where it says OK is the board's: so its cells read as the filled table, and a parse with them is the plain machine's. Assumes nothing.
use Rattle.std.specs.Prelude.{◌≡◌, refl, List, [], ◌∷◌, ℕ, ◌≤◌, ◌<◌, ℤ, length, get_or}
use Rattle.std.proofs.Common.{ap, subst, arith}
use Rattle.std.proofs.Math.Option.{some}
use Rattle.tables.specs.declared.Sizes.{Sizes}
use Rattle.tables.specs.Said.{OK}
use Rattle.tables.specs.Grammar.{grammar}
use Rattle.tables.specs.Judgement.{judgement}
use Rattle.tables.specs.Filled.{filled_action_at, filled_goto_at}
use Rattle.cells.specs.Read.{action, goto, twice, cells_of, read_cell}
use Rattle.packing.specs.Job.{job_of}
use Rattle.packing.specs.Bench.{Bench}
use Rattle.packing.specs.Packed.{Packed, pack}
use Rattle.packing.specs.Packing.{Result, packing_result, packed}
use Rattle.packing.specs.Promises.{Carries, CarriesGoto, Housed}
use Rattle.packing.specs.Valid.{Valid}
use Rattle.packing.specs.Written.{bench}
use Rattle.packing.specs.Theorems as packing
use Rattle.machine.specs.Reads.{plain_reads}
use Rattle.machine.specs.Machine.{Job, start}
use Rattle.machine.specs.Carry.{carry_step}
use Rattle.machine.specs.Steps.{steps}
use Rattle.cells.specs.Reads.{cell_reads}
use Rattle.parser.specs.Theorems as parser
use Rattle.demands.specs.Says.{SaysPack}
use Rattle.demands.specs.Laws.Judged.{pack-exactly}

module _ (z : Sizes) (states : ℕ) (left lens rights : List ℕ) (table : List ℤ) (srule sgoto : List ℕ) (B C : Bench) (n : ℕ)
    (said : packed z states left lens rights table srule sgoto B ≡ packing_result (OK (n ∷ [])) C) where
  -- nothing was refused, and the arrays are those of the board packed into W cells
  record Board : Type 0 where
    good : judgement z states left lens rights table srule sgoto ≡ OK []
    W : ℕ
    cells : Packed
    there : pack (job_of twice z states table srule sgoto) W ≡ some cells
    same : bench cells.bases cells.checks cells.marks cells.places ≡ C

  number : {p q : Result} → p ≡ q → p.said.number ≡ q.said.number
  number e = ap (λ (r : Result). r.said.number) e

  board : Board
  board = by ((pack-exactly z states left lens rights table srule sgoto B (packed z states left lens rights table srule sgoto B)).0 refl) said
    where
      by : {o : Result} → SaysPack z states left lens rights table srule sgoto B o → o ≡ packing_result (OK (n ∷ [])) C → Board
      by (SaysPack.size f) e = absurd (let k : ◌≡◌ {A = ℕ} 1 0 = number e in omega arith)
      by (SaysPack.refused f d) e = absurd (d (number e))
      by (SaysPack.no_room f o q) e = absurd (let k : ◌≡◌ {A = ℕ} 5 0 = number e in omega arith)
      by (SaysPack.placed f o A q) e = record { good = o; W = length B.bases; cells = A; there = q; same = ap (λ (r : Result). r.arrays) e }

  valid : Valid z states table srule sgoto
  valid = packing.judged z states left lens rights table srule sgoto board.good

  pub packed-action : (s a : ℕ) → s < states → a < z.terminals
      → Carries C.places (read_cell action (cells_of z.rules twice C.bases C.checks) (get_or C.places s 0) a) (filled_action_at z table srule s a)
  packed-action s a h k =
      subst (λ (D : Bench). Carries D.places (read_cell action (cells_of z.rules twice D.bases D.checks) (get_or D.places s 0) a) (filled_action_at z table srule s a))
      board.same
      (packing.reads-action z states table srule sgoto valid twice (packing.this-edition z.terminals) board.W board.cells board.there s a h k)

  pub packed-goto : (s x : ℕ) → s < states → z.terminals ≤ x → x < z.symbols
      → CarriesGoto C.places (read_cell goto (cells_of z.rules twice C.bases C.checks) (get_or C.places s 0) x) (filled_goto_at z table sgoto s x)
  packed-goto s x h l k =
      subst (λ (D : Bench). CarriesGoto D.places (read_cell goto (cells_of z.rules twice D.bases D.checks) (get_or D.places s 0) x) (filled_goto_at z table sgoto s x))
      board.same
      (packing.reads-goto z states table srule sgoto valid twice (packing.this-edition z.terminals) board.W board.cells board.there s x h l k)

  pub packed-housed : Housed (length C.bases) states C.places
  packed-housed =
      subst (λ (D : Bench). Housed (length D.bases) states D.places) board.same
      (rw (packing.sized z states table srule sgoto valid twice (packing.this-edition z.terminals) board.W board.cells board.there).bases
      (packing.housed z states table srule sgoto valid twice (packing.this-edition z.terminals) board.W board.cells board.there))

  pub packed-steps : (j : Job) (k : ℕ)
      → steps (grammar z left lens rights) (cell_reads z.rules C.bases C.checks) j k start
      ≡ carry_step (λ s. get_or C.places s 0) (steps (grammar z left lens rights) (plain_reads z table srule sgoto) j k start)
  packed-steps j k =
      subst (λ (D : Bench).
      steps (grammar z left lens rights) (cell_reads z.rules D.bases D.checks) j k start
      ≡ carry_step (λ s. get_or D.places s 0) (steps (grammar z left lens rights) (plain_reads z table srule sgoto) j k start))
      board.same
      (parser.simulated-moves z states left lens rights table srule sgoto board.good board.W board.cells board.there j k)
