-- The numbers that each entry point may say. Assumes nothing.
use Rattle.std.specs.Prelude.{◌≡◌, refl, ◌≢◌, ◌⊎◌, List, ℕ, ◌≤◌, ℤ, Ok, Err}
use Rattle.std.proofs.Math.Logic.{inl}
use Rattle.std.proofs.Common.{inr, ⊎_elim, arith}
use Rattle.tables.specs.declared.Sizes.{Sizes}
use Rattle.tables.specs.Said.{Said}
use Rattle.tables.specs.Judgement.{grammar_judgement}
use Rattle.tables.specs.Laws.Numbers.{judged-low}
use Rattle.cells.specs.Asked.{read_said}
use Rattle.machine.specs.Types.{Answer}
use Rattle.machine.specs.declared.Stop.TheVariants.{Token, Syntax, Underflow, NoGoto, Stack, Output, Moves, BadCell}
use Rattle.machine.specs.Machine as machine
use Rattle.machine.specs.Outcome.{answer_of, Outcome, unchanged, leaves, plain_parse}
use Rattle.machine.specs.Laws.Outcome.{plain-never-badcell}
use Rattle.parser.specs.Outcome.{packed_parse}
use Rattle.soundness.specs.Outcome.{checked}
use Rattle.demands.specs.Says.{SaysRead, SaysParse, SaysPlain, SaysCheck}
use Rattle.demands.specs.Laws.Cells.{grammar-cases, read-exactly, parse-exactly}
use Rattle.demands.specs.Laws.Judged.{plain-exactly, check-exactly}

-- a run ends with 0 or 7 to 14
ended-number : (a : Answer) (moves : ℕ) → ((answer_of a moves).number ≡ 0) ⊎ ((7 ≤ (answer_of a moves).number) × ((answer_of a moves).number ≤ 14))
ended-number (Ok n) moves = inl refl
ended-number (Err (Token i)) moves = inr (omega arith, omega arith)
ended-number (Err (Syntax i)) moves = inr (omega arith, omega arith)
ended-number (Err (Underflow i r)) moves = inr (omega arith, omega arith)
ended-number (Err (NoGoto i r)) moves = inr (omega arith, omega arith)
ended-number (Err (Stack i)) moves = inr (omega arith, omega arith)
ended-number (Err (Output i)) moves = inr (omega arith, omega arith)
ended-number (Err (Moves i)) moves = inr (omega arith, omega arith)
ended-number (Err (BadCell x)) moves = inr (omega arith, omega arith)

-- a number 0..n that a parse refuses with, or one of a run
abbrev Parsed : ℕ → Outcome → Type 0
Parsed n o = (o.said.number ≤ n) ⊎ ((7 ≤ o.said.number) × (o.said.number ≤ 14))

left-number : (n : ℕ) (r : machine.Result) (stack list : List ℕ) → Parsed n (leaves r stack list)
unfolding leaves
left-number n r stack list = ⊎_elim (λ e. inl (omega arith)) (λ h. inr h) (ended-number r.answer r.moves)

module _ (z : Sizes) (base check : List ℤ) (x a : ℕ) where
  pub read_number : ((read_said z base check x a).number ≤ 1) ⊎ ((read_said z base check x a).number ≡ 14)
  read_number = by ((read-exactly z base check x a _).0 refl)
    where
      by : {s : Said} → SaysRead z base check x a s → (s.number ≤ 1) ⊎ (s.number ≡ 14)
      by (SaysRead.size f) = inl (omega arith)
      by (SaysRead.bad-cell f e) = inr refl
      by (SaysRead.direct y f e) = inl (omega arith)
      by (SaysRead.pointer y f e) = inl (omega arith)
      by (SaysRead.reduce r f e) = inl (omega arith)
      by (SaysRead.accept f e) = inl (omega arith)
      by (SaysRead.blank f e) = inl (omega arith)

module _ (z : Sizes) (left lens rights : List ℕ) (base check : List ℤ) (tokens : List ℕ) (limit : ℕ) (stack list : List ℕ) where
  low : (grammar_judgement z left lens rights).number ≤ 2
  low = ⊎_elim (λ e. rw e (omega arith)) (λ h. h.1) (grammar-cases z left lens rights)

  pub parse-number : Parsed 2 (packed_parse z left lens rights base check tokens limit stack list)
  unfolding unchanged
  parse-number = by ((parse-exactly z left lens rights base check tokens limit stack list _).0 refl)
    where
      by : {o : Outcome} → SaysParse z left lens rights base check tokens limit stack list o → Parsed 2 o
      by (SaysParse.size f) = inl (omega arith)
      by (SaysParse.refused f n) = inl low
      by (SaysParse.ended f e r k) = left-number 2 r stack list

module _ (z : Sizes) (states : ℕ) (left lens rights : List ℕ) (table : List ℤ) (srule sgoto : List ℕ) where
  pub check-number : ((checked z states left lens rights table srule sgoto).number ≤ 4) ⊎ ((checked z states left lens rights table srule sgoto).number ≡ 6)
  check-number = by ((check-exactly z states left lens rights table srule sgoto _).0 refl)
    where
      by : {s : Said} → SaysCheck z states left lens rights table srule sgoto s → (s.number ≤ 4) ⊎ (s.number ≡ 6)
      by (SaysCheck.refused n) = inl (judged-low z states left lens rights table srule sgoto)
      by (SaysCheck.sound e k) = inl (omega arith)
      by (SaysCheck.unsound p r e k) = inr refl

  module _ (tokens : List ℕ) (limit : ℕ) (stack list : List ℕ) where
    abbrev plain : Outcome
    plain = plain_parse z states left lens rights table srule sgoto tokens limit stack list

    plain_by : Parsed 4 plain
    unfolding unchanged
    plain_by = by ((plain-exactly z states left lens rights table srule sgoto tokens limit stack list _).0 refl)
      where
        by : {o : Outcome} → SaysPlain z states left lens rights table srule sgoto tokens limit stack list o → Parsed 4 o
        by (SaysPlain.size f) = inl (omega arith)
        by (SaysPlain.refused f n) = inl (judged-low z states left lens rights table srule sgoto)
        by (SaysPlain.ended f e r k) = left-number 4 r stack list

    -- never 14
    pub plain-number : (plain.said.number ≤ 4) ⊎ ((7 ≤ plain.said.number) × (plain.said.number ≤ 13))
    plain-number =
        let n : plain.said.number ≢ 14 = plain-never-badcell z states left lens rights table srule sgoto tokens limit stack list in
        ⊎_elim (λ h. inl h) (λ h. inr (h.0, omega (arith, h.1))) plain_by
