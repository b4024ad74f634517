-- Demand 1: every entry point takes any table, cells, sheet or token list and ends with an answer of 'What is said back', each refusal exactly under its stated condition, with the lent arrays as stated.
-- To be believed: the contracts, by which `judge` says `judgement`, `pack` `packed`, `read` `read_said`, `plain_parse` the definition of its own name, `parse` `packed_parse` and `check` `checked`, for every input;
-- Moves and Says in this folder; number/specs Number; tables/specs Said, Lists, Size, Grammar, Entry, Signing, Verdict;
-- reads/specs Read, Reads; cells/specs Read, Reads, Size, Asked; packing/specs Job, Rows, Board, Packed, with `Bench` of Bench, `arrays_fit` of Packing and `wiped` of Turns; machine/specs Types, Reads, Machine, Outcome, with `steps` of Steps;
-- parser/specs Outcome; soundness/specs Path, Verdict, Answer; sheets/specs Decimal, Sheet, Lines, Outcome.
use Rattle.std.specs.Prelude.{◌≡◌, ◌↔◌, ◌⊎◌, List, ℕ, ◌≤◌, ℤ, Result as Returns}
use Rattle.std.proofs.Common.{sym, ap, ◌∙◌}
use Rattle.tables.specs.declared.Sizes.{Sizes}
use Rattle.tables.specs.declared.Refusal.{Refusal}
use Rattle.tables.specs.Said.{Said}
use Rattle.tables.specs.Grammar.{Grammar}
use Rattle.tables.specs.Judgement as tables
use Rattle.tables.specs.Judgement.{judgement, grammar_judgement}
use Rattle.tables.specs.Verdict.{Verdict}
use Rattle.tables.specs.Laws.Judgement.{said-once}
use Rattle.tables.specs.Laws.Numbers.{judged-low}
use Rattle.reads.specs.declared.Read.{Read}
use Rattle.cells.specs.declared.ReadRefusal as asked
use Rattle.cells.specs.Asked as cells
use Rattle.cells.specs.Asked.{read_said}
use Rattle.cells.specs.Laws.Asked as read
use Rattle.packing.specs.declared.PackRefusal.{PackRefusal}
use Rattle.packing.specs.Bench.{Bench}
use Rattle.packing.specs.Packing as packing
use Rattle.packing.specs.Packing.{Result, packing_result, packed}
use Rattle.packing.specs.Laws.Outcome.{packing-once}
use Rattle.packing.specs.Laws.Numbers.{packed-low}
use Rattle.machine.specs.Types.{Parsed}
use Rattle.reads.specs.Reads.{Reads}
use Rattle.machine.specs.Machine as machine
use Rattle.machine.specs.Machine.{Job, Config, Step, move}
use Rattle.machine.specs.Outcome.{said_of, moves_of, Outcome, outcome, plain_parse}
use Rattle.machine.specs.Laws.Outcome.{outcome-once}
use Rattle.parser.specs.Outcome.{packed_parse}
use Rattle.soundness.specs.declared.CheckRefusal.{CheckRefusal}
use Rattle.soundness.specs.Outcome.{checked}
use Rattle.soundness.specs.Answer as check
use Rattle.soundness.specs.Laws.Answer.{answer-once}
use Rattle.sheets.specs.declared.ReadRefusal.{ReadRefusal}
use Rattle.sheets.specs.declared.WriteRefusal.{WriteRefusal}
use Rattle.sheets.specs.Outcome.{read_said as sheet_read_said, write_said, read_outcome, write_outcome, sheet_read, sheet_write}
use Rattle.sheets.specs.Theorems as sheets
use Rattle.demands.specs.Moves.{SaysMove, RunEnds}
use Rattle.demands.specs.Says.{SaysGrammar, SaysParse, SaysRead, SaysPack, SaysPlain, SaysCheck}
use Rattle.demands.specs.Laws.Runs as runs
use Rattle.demands.specs.Laws.Moves as moves
use Rattle.demands.specs.Laws.Cells as laws
use Rattle.demands.specs.Laws.Judged as judged
use Rattle.demands.specs.Laws.Numbers as numbers

module _ (z : Sizes) (states : ℕ) (left lens rights : List ℕ) (table : List ℤ) (srule sgoto : List ℕ) where
  -- `judge` says SIZE, GRAMMAR, ENTRY or SIGN exactly under its condition, in that order, each with the lowest that is bad, else OK.
  pub judge-exactly : (s : Said) → (judgement z states left lens rights table srule sgoto ≡ s) ↔ Verdict z states left lens rights table srule sgoto s
  judge-exactly = judged.judge-exactly z states left lens rights table srule sgoto

  -- It says 0 to 4.
  pub judge-numbers : (judgement z states left lens rights table srule sgoto).number ≤ 4
  judge-numbers = judged-low z states left lens rights table srule sgoto

  -- Any two answers that its contract allows for one input are equal.
  pub judge-once : (a b : Returns (Unit {0}) Refusal) → tables.said_of a ≡ judgement z states left lens rights table srule sgoto → tables.said_of b ≡ judgement z states left lens rights table srule sgoto → a ≡ b
  judge-once a b e f = said-once a b (e ∙ sym f)

  -- `pack` says each of its answers, and leaves the four arrays, exactly as its rows have it: unchanged, 0 everywhere, or the packed cells.
  pub pack-exactly : (B : Bench) (o : Result) → (packed z states left lens rights table srule sgoto B ≡ o) ↔ SaysPack z states left lens rights table srule sgoto B o
  pack-exactly = judged.pack-exactly z states left lens rights table srule sgoto

  -- It says 0 to 5.
  pub pack-numbers : (B : Bench) → (packed z states left lens rights table srule sgoto B).said.number ≤ 5
  pack-numbers = packed-low z states left lens rights table srule sgoto

  -- Any two outcomes that its contract allows for one input are equal, the arrays too.
  pub pack-once : (B : Bench) (a b : Returns ℕ PackRefusal) {A C : Bench} → packing_result (packing.said_of a) A ≡ packed z states left lens rights table srule sgoto B
      → packing_result (packing.said_of b) C ≡ packed z states left lens rights table srule sgoto B → (a ≡ b) × (A ≡ C)
  pack-once B a b e f = (packing-once a b (ap (λ (r : Result). r.said) (e ∙ sym f)), ap (λ (r : Result). r.arrays) (e ∙ sym f))

  -- `check` says each of its answers exactly as its rows have it; it is lent no array.
  pub check-exactly : (s : Said) → (checked z states left lens rights table srule sgoto ≡ s) ↔ SaysCheck z states left lens rights table srule sgoto s
  check-exactly = judged.check-exactly z states left lens rights table srule sgoto

  -- It says 0 to 4 or 6.
  pub check-numbers : ((checked z states left lens rights table srule sgoto).number ≤ 4) ⊎ ((checked z states left lens rights table srule sgoto).number ≡ 6)
  check-numbers = numbers.check-number z states left lens rights table srule sgoto

  -- Any two answers that its contract allows for one input are equal.
  pub check-once : (a b : Returns (Unit {0}) CheckRefusal) → check.said_of a ≡ checked z states left lens rights table srule sgoto → check.said_of b ≡ checked z states left lens rights table srule sgoto → a ≡ b
  check-once a b e f = answer-once a b (e ∙ sym f)

  module _ (tokens : List ℕ) (limit : ℕ) (stack list : List ℕ) where
    -- `plain_parse` says each of its answers, and leaves stack and list, exactly as its rows have it: unchanged, or the stack all 0 and the list with the reductions made, then 0.
    pub plain-exactly : (o : Outcome) → (plain_parse z states left lens rights table srule sgoto tokens limit stack list ≡ o)
        ↔ SaysPlain z states left lens rights table srule sgoto tokens limit stack list o
    plain-exactly = judged.plain-exactly z states left lens rights table srule sgoto tokens limit stack list

    -- It says 0 to 4 or 7 to 13.
    pub plain-numbers : ((plain_parse z states left lens rights table srule sgoto tokens limit stack list).said.number ≤ 4)
        ⊎ ((7 ≤ (plain_parse z states left lens rights table srule sgoto tokens limit stack list).said.number) × ((plain_parse z states left lens rights table srule sgoto tokens limit stack list).said.number ≤ 13))
    plain-numbers = numbers.plain-number z states left lens rights table srule sgoto tokens limit stack list

    -- Any two outcomes that its contract allows for one input are equal, stack and list too.
    pub plain-once : (a b : Parsed) {stack₁ list₁ stack₂ list₂ : List ℕ}
        → outcome (said_of a) (moves_of a) stack₁ list₁ ≡ plain_parse z states left lens rights table srule sgoto tokens limit stack list
        → outcome (said_of b) (moves_of b) stack₂ list₂ ≡ plain_parse z states left lens rights table srule sgoto tokens limit stack list
        → (a ≡ b) × (stack₁ ≡ stack₂) × (list₁ ≡ list₂)
    plain-once a b e f = outcome-once a b (e ∙ sym f)

module _ (z : Sizes) (left lens rights : List ℕ) where
  -- A parse with cells begins with SIZE and GRAMMAR alone, each exactly under its condition.
  pub grammar-exactly : (s : Said) → (grammar_judgement z left lens rights ≡ s) ↔ SaysGrammar z left lens rights s
  grammar-exactly = laws.grammar-exactly z left lens rights

  module _ (base check : List ℤ) (tokens : List ℕ) (limit : ℕ) (stack list : List ℕ) where
    -- `parse` says each of its answers, and leaves stack and list, exactly as its rows have it, whatever the cells hold.
    pub parse-exactly : (o : Outcome) → (packed_parse z left lens rights base check tokens limit stack list ≡ o) ↔ SaysParse z left lens rights base check tokens limit stack list o
    parse-exactly = laws.parse-exactly z left lens rights base check tokens limit stack list

    -- It says 0 to 2 or 7 to 14.
    pub parse-numbers : ((packed_parse z left lens rights base check tokens limit stack list).said.number ≤ 2)
        ⊎ ((7 ≤ (packed_parse z left lens rights base check tokens limit stack list).said.number) × ((packed_parse z left lens rights base check tokens limit stack list).said.number ≤ 14))
    parse-numbers = numbers.parse-number z left lens rights base check tokens limit stack list

    -- Any two outcomes that its contract allows for one input are equal, stack and list too.
    pub parse-once : (a b : Parsed) {stack₁ list₁ stack₂ list₂ : List ℕ}
        → outcome (said_of a) (moves_of a) stack₁ list₁ ≡ packed_parse z left lens rights base check tokens limit stack list
        → outcome (said_of b) (moves_of b) stack₂ list₂ ≡ packed_parse z left lens rights base check tokens limit stack list
        → (a ≡ b) × (stack₁ ≡ stack₂) × (list₁ ≡ list₂)
    parse-once a b e f = outcome-once a b (e ∙ sym f)

module _ (z : Sizes) (base check : List ℤ) (x a : ℕ) where
  -- `read` says each of its answers exactly as its rows have it; it is lent nothing that it changes.
  pub read-exactly : (s : Said) → (read_said z base check x a ≡ s) ↔ SaysRead z base check x a s
  read-exactly = laws.read-exactly z base check x a

  -- It says 0, 1 or 14.
  pub read-numbers : ((read_said z base check x a).number ≤ 1) ⊎ ((read_said z base check x a).number ≡ 14)
  read-numbers = numbers.read_number z base check x a

  -- Any two answers that its contract allows for one input are equal.
  pub read-once : (p q : Returns Read asked.ReadRefusal) → cells.said_of p ≡ read_said z base check x a → cells.said_of q ≡ read_said z base check x a → p ≡ q
  read-once p q e f = read.said-once p q (e ∙ sym f)

module _ (g : Grammar) (m : Reads) (j : Job) where
  -- A run over any way of reading ends with STACK at 0 where there is no stack, else with the first move that ends it, or with MOVES where the limit is reached first.
  pub run-exactly : (limit : ℕ) (r : machine.Result) → (machine.parse g m j limit ≡ r) ↔ RunEnds g m j limit r
  run-exactly = runs.parse-exactly g m j

  -- A move says each of its answers exactly as its rows have it.
  pub move-exactly : (c : Config) (s : Step) → (move g m j c ≡ s) ↔ SaysMove g m j c s
  move-exactly = moves.move-exactly g m j

module _ (z : Sizes) (states : ℕ) (srule sgoto : List ℕ) where
  -- The sheet's reader says SIZE, LINE, SIGN or OK as its definition has it, the signing unchanged but with OK; any two outcomes that its contract allows for one input are equal, the signing too.
  pub sheet-read-once : (text : List ℕ) (a b : Returns ℕ ReadRefusal) {rules targets rules₂ targets₂ : List ℕ}
      → read_outcome (sheet_read_said a) rules targets ≡ sheet_read z states text srule sgoto → read_outcome (sheet_read_said b) rules₂ targets₂ ≡ sheet_read z states text srule sgoto
      → (a ≡ b) × (rules ≡ rules₂) × (targets ≡ targets₂)
  sheet-read-once text a b = sheets.read-one-outcome a b _ _ _ _ (sheet_read z states text srule sgoto)

  -- The writer says SIZE, SIGN, TEXT or OK as its definition has it, the buffer unchanged but with OK; any two outcomes that its contract allows for one input are equal, the buffer too.
  pub sheet-write-once : (buffer : List ℕ) (a b : Returns ℕ WriteRefusal) {after after₂ : List ℕ}
      → write_outcome (write_said a) after ≡ sheet_write z states srule sgoto buffer → write_outcome (write_said b) after₂ ≡ sheet_write z states srule sgoto buffer
      → (a ≡ b) × (after ≡ after₂)
  sheet-write-once buffer a b = sheets.write-one-outcome a b _ _ (sheet_write z states srule sgoto buffer)
