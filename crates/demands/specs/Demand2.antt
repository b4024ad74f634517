-- Demand 2: packed cells answer as the written table with only the signed blanks filled, and a packed parse is the plain machine's, in reductions, refusal, place and count of moves; a sheet written and read back is the same sheet, and no second text has its meaning.
-- To be believed: demand 1 with what it names; Room in this folder; tables/specs Filled; packing/specs Promises; machine/specs Steps, Carry.
use Rattle.std.specs.Prelude.{◌≡◌, ◌≢◌, true, List, [], ◌∷◌, ℕ, ◌-◌, ◌≤◌, ◌<◌, ℤ, length, get_or, take, None}
use Rattle.tables.specs.declared.Sizes.{Sizes}
use Rattle.tables.specs.declared.Action.TheVariants as action
use Rattle.tables.specs.Said.{OK}
use Rattle.tables.specs.Size.{signing_fits}
use Rattle.tables.specs.Grammar.{Grammar, grammar}
use Rattle.tables.specs.Judgement.{judgement}
use Rattle.tables.specs.Entry.{action_at, goto_at}
use Rattle.tables.specs.Filled.{signed_action, signed_goto, filled_action_at, filled_goto_at}
use Rattle.tables.specs.Laws.Filled as filled
use Rattle.cells.specs.Read as cells
use Rattle.cells.specs.Read.{twice, cells_of, read_cell}
use Rattle.packing.specs.Bench.{Bench}
use Rattle.packing.specs.Packing.{packing_result, packed}
use Rattle.packing.specs.Promises.{Carries, CarriesGoto, Housed}
use Rattle.machine.specs.Reads.{plain_reads}
use Rattle.machine.specs.Machine.{Job, start, parse}
use Rattle.machine.specs.Outcome.{plain_parse}
use Rattle.machine.specs.Carry.{carry_step}
use Rattle.machine.specs.Steps.{steps, Made}
use Rattle.cells.specs.Reads.{cell_reads}
use Rattle.parser.specs.Outcome.{packed_parse}
use Rattle.parser.specs.Theorems as parser
use Rattle.demands.specs.Room.{Takes}
use Rattle.demands.specs.Laws.Room as room
use Rattle.sheets.specs.Outcome.{read_outcome, sheet_read, sheet_write}
use Rattle.sheets.specs.Meaning.{Meaning}
use Rattle.sheets.specs.Theorems as sheets
use Rattle.demands.specs.Laws.Packed as laws

module _ (z : Sizes) (table : List ℤ) (srule sgoto : List ℕ) where
  -- In the filled table a written action stays as it is.
  pub written-action : (s a : ℕ) → action_at z table s a ≢ action.Blank → filled_action_at z table srule s a ≡ action_at z table s a
  written-action = filled.written-action z table srule

  -- A blank one is the signed rule of the state, and stays blank where none is signed.
  pub blank-action : (s a : ℕ) → action_at z table s a ≡ action.Blank → filled_action_at z table srule s a ≡ signed_action (get_or srule s 0)
  blank-action = filled.blank-action z table srule

  -- A written goto stays as it is.
  pub written-goto : (s x : ℕ) → goto_at z table s x ≢ None → filled_goto_at z table sgoto s x ≡ goto_at z table s x
  written-goto = filled.written-goto z table sgoto

  -- A blank one is the signed state of the nonterminal, and stays blank where none is signed.
  pub blank-goto : (s x : ℕ) → goto_at z table s x ≡ None → filled_goto_at z table sgoto s x ≡ signed_goto (get_or sgoto (x - z.terminals) 0)
  blank-goto = filled.blank-goto z table sgoto

-- What is not refused is packed: there is one number of cells from which on `pack` says OK, and below it NOROOM.
pub packs : (z : Sizes) (states : ℕ) (left lens rights : List ℕ) (table : List ℤ) (srule sgoto : List ℕ)
    → judgement z states left lens rights table srule sgoto ≡ OK [] → Takes z states left lens rights table srule sgoto
packs = room.takes

-- Wherever `pack` says OK, whatever it was lent:
module _ (z : Sizes) (states : ℕ) (left lens rights : List ℕ) (table : List ℤ) (srule sgoto : List ℕ) (B C : Bench) (n : ℕ)
    (said : packed z states left lens rights table srule sgoto B ≡ packing_result (OK (n ∷ [])) C) where
  -- State 0 is at cell 0, each state has its two cells inside, and no two states stand at the same cell.
  pub housed : Housed (length C.bases) states C.places
  housed = laws.packed-housed z states left lens rights table srule sgoto B C n said

  -- At each state and terminal the cells read as the filled table, each state carried to its cell.
  pub reads-action : (s a : ℕ) → s < states → a < z.terminals
      → Carries C.places (read_cell cells.action (cells_of z.rules twice C.bases C.checks) (get_or C.places s 0) a) (filled_action_at z table srule s a)
  reads-action = laws.packed-action z states left lens rights table srule sgoto B C n said

  -- At each state and nonterminal likewise.
  pub reads-goto : (s x : ℕ) → s < states → z.terminals ≤ x → x < z.symbols
      → CarriesGoto C.places (read_cell cells.goto (cells_of z.rules twice C.bases C.checks) (get_or C.places s 0) x) (filled_goto_at z table sgoto s x)
  reads-goto = laws.packed-goto z states left lens rights table srule sgoto B C n said

  -- A parse with the cells says and leaves what the plain machine does, for all tokens, equal room and limit: the same reductions, refusal, place and count of moves.
  pub parses-alike : (tokens : List ℕ) (limit : ℕ) (stack list : List ℕ)
      → packed_parse z left lens rights C.bases C.checks tokens limit stack list ≡ plain_parse z states left lens rights table srule sgoto tokens limit stack list
  parses-alike = parser.packed-then-parsed z states left lens rights table srule sgoto B C n said

  -- And it does so move by move: after k moves each stands where the other does, each state at its cell, or both have ended alike.
  pub moves-alike : (j : Job) (k : ℕ)
      → steps (grammar z left lens rights) (cell_reads z.rules C.bases C.checks) j k start
      ≡ carry_step (λ s. get_or C.places s 0) (steps (grammar z left lens rights) (plain_reads z table srule sgoto) j k start)
  moves-alike = laws.packed-steps z states left lens rights table srule sgoto B C n said

-- With any cells, the count of moves is that of the moves made: those that went on, and accepting.
pub moves-counted : (g : Grammar) (rules : ℕ) (base check : List ℤ) (j : Job) (limit : ℕ) → 0 < j.stack
    → Made g (cell_reads rules base check) j limit start (parse g (cell_reads rules base check) j limit)
moves-counted = parser.counted

module _ (z : Sizes) (states : ℕ) where
  -- Where the writer says OK n, the first n bytes that it left are read as the signing that it wrote, whatever fitting signing was lent.
  pub round : (srule sgoto buffer rules targets : List ℕ) (n : ℕ) → (sheet_write z states srule sgoto buffer).said ≡ OK (n ∷ [])
      → signing_fits z states rules targets ≡ true
      → sheet_read z states (take n (sheet_write z states srule sgoto buffer).buffer) rules targets ≡ read_outcome (OK (n ∷ [])) srule sgoto
  round = sheets.round z states

  -- A text that is read as a signing is the text that is written for it.
  pub unique : (text rules targets srule sgoto : List ℕ) (n : ℕ) → sheet_read z states text rules targets ≡ read_outcome (OK (n ∷ [])) srule sgoto
      → Meaning z states text n srule sgoto
  unique = sheets.unique z states

  -- So two texts with one meaning are one text.
  pub one-text : (text text₂ rules targets rules₂ targets₂ srule sgoto : List ℕ) (n n₂ : ℕ)
      → sheet_read z states text rules targets ≡ read_outcome (OK (n ∷ [])) srule sgoto → sheet_read z states text₂ rules₂ targets₂ ≡ read_outcome (OK (n₂ ∷ [])) srule sgoto
      → text ≡ text₂
  one-text = sheets.one-text z states
