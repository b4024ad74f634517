-- What the plain machine accepts over a table that the check passes is yielded by the start symbol. Assumes nothing.
use Rattle.std.specs.Prelude.{◌≡◌, refl, Bool, cond, List, [], ◌∷◌, reverse, ℕ, ℤ, length, Ok, Err, true, false}
use Rattle.std.proofs.Common.{subst, arith}
use Rattle.tables.specs.declared.Sizes.{Sizes}
use Rattle.tables.specs.Said.{OK, SIZE}
use Rattle.tables.specs.Grammar.{Grammar, grammar}
use Rattle.tables.specs.Judgement.{judgement}
use Rattle.machine.specs.Types.{Answer}
use Rattle.machine.specs.declared.Stop.TheVariants.{Token, Syntax, Underflow, NoGoto, Stack, Output, Moves, BadCell}
use Rattle.reads.specs.Reads.{Reads}
use Rattle.machine.specs.Reads.{plain_reads}
use Rattle.machine.specs.Machine.{Result, parse}
use Rattle.machine.specs.Outcome.{answer_of, unchanged, leaves, job_fits, job, judged_then, plain_parse}
use Rattle.soundness.specs.Derivation.{Terminals, Rightmost}
use Rattle.soundness.specs.Verdict.{sound}
use Rattle.soundness.specs.Outcome.{checked}
use Rattle.soundness.specs.Laws.Outcome.{checked-exact}
use Rattle.soundness.specs.Laws.Derives.{Right}
use Rattle.soundness.specs.Laws.Demand.{passed-right}
use Rattle.soundness.specs.Laws.Yields.{Yields, rightmost-yields}

-- 0 is said of what is accepted
said-accepted : (a : Answer) (moves : ℕ) → (answer_of a moves).number ≡ 0 → (n : ℕ) × (a ≡ Ok n)
said-accepted (Ok n) moves e = (n, refl)
said-accepted (Err (Token i)) moves e = absurd (omega arith)
said-accepted (Err (Syntax i)) moves e = absurd (omega arith)
said-accepted (Err (Underflow i r)) moves e = absurd (omega arith)
said-accepted (Err (NoGoto i r)) moves e = absurd (omega arith)
said-accepted (Err (Stack i)) moves e = absurd (omega arith)
said-accepted (Err (Output i)) moves e = absurd (omega arith)
said-accepted (Err (Moves i)) moves e = absurd (omega arith)
said-accepted (Err (BadCell x)) moves e = absurd (omega arith)

module _ (z : Sizes) (states : ℕ) (left lens rights : List ℕ) (table : List ℤ) (srule sgoto : List ℕ)
    (passed : checked z states left lens rights table srule sgoto ≡ OK []) (tokens : List ℕ) (limit : ℕ) (stack list : List ℕ) where
  abbrev g : Grammar
  g = grammar z left lens rights

  abbrev v : Reads
  v = plain_reads z table srule sgoto

  abbrev ran : Result
  ran = parse g v (job tokens stack list) limit

  good : judgement z states left lens rights table srule sgoto ≡ OK []
  good = ((checked-exact z states left lens rights table srule sgoto sound).0 passed).0

  said-is : plain_parse z states left lens rights table srule sgoto tokens limit stack list
      ≡ cond (job_fits tokens limit) (leaves ran stack list) (unchanged SIZE stack list)
  unfolding plain_parse judged_then
  said-is = rw good

  ran-yields : (n : ℕ) → ran.answer ≡ Ok n → Yields g (g.T ∷ []) tokens
  ran-yields n e =
      let d : (n ≡ length ran.made) × Terminals g.T tokens × Rightmost g (g.T ∷ []) (reverse ran.made) tokens =
      subst (λ (x : Answer). Right g tokens x ran.made) e (passed-right z states left lens rights table srule sgoto passed (job tokens stack list) limit) in
      rightmost-yields d.2 d.1

  ok-yields : (b : Bool) → (cond b (leaves ran stack list) (unchanged SIZE stack list)).said.number ≡ 0 → Yields g (g.T ∷ []) tokens
  unfolding leaves unchanged
  ok-yields true e = let a : (n : ℕ) × (ran.answer ≡ Ok n) = said-accepted ran.answer ran.moves e in ran-yields a.0 a.1
  ok-yields false e = absurd (omega arith)

  -- where OK is said, the start symbol yields the tokens
  pub accepted-yields : (plain_parse z states left lens rights table srule sgoto tokens limit stack list).said.number ≡ 0 → Yields g (z.terminals ∷ []) tokens
  unfolding grammar
  accepted-yields e = ok-yields (job_fits tokens limit) (rw said-is at e)
