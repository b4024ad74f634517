-- What a passed check gives of the plain machine's parse, as it is said and left. Assumes nothing.
use Rattle.std.specs.Prelude.{◌≡◌, ◌≢◌, ◌⊎◌, Bool, cond, List, [], ◌∷◌, ◌++◌, reverse, ℕ, ◌-◌, ◌≤◌, ℤ, get_or, take, replicate, Ok, Err, refl, true, false, length}
use Rattle.std.proofs.Common.{sym, ap, ◌∙◌, inl, inr, ne_eqb, subst, arith}
use Rattle.std.proofs.Math.Seq.{take-append_seam}
use Rattle.tables.specs.declared.Sizes.{Sizes}
use Rattle.tables.specs.Said.{Said, OK, SIZE}
use Rattle.tables.specs.Grammar.{Grammar, grammar}
use Rattle.tables.specs.Judgement.{judgement}
use Rattle.tables.specs.Laws.Numbers.{judged-cases}
use Rattle.machine.specs.Types.{Answer}
use Rattle.machine.specs.declared.Stop.TheVariants.{Token, Syntax, Underflow, NoGoto, Stack, Output, Moves, BadCell}
use Rattle.reads.specs.Reads.{Reads}
use Rattle.machine.specs.Reads.{plain_reads, unsigned_reads}
use Rattle.machine.specs.Machine.{Job, Result, parse}
use Rattle.machine.specs.Outcome.{answer_of, Outcome, unchanged, leaves, job_fits, job, judged_then, plain_parse}
use Rattle.soundness.specs.Derivation.{Terminals, Rightmost}
use Rattle.soundness.specs.Verdict.{Sound, sound}
use Rattle.soundness.specs.Outcome.{checked}
use Rattle.soundness.specs.Laws.Fills.{plain-fills}
use Rattle.soundness.specs.Laws.Outcome.{checked-exact, good-proper}
use Rattle.soundness.specs.Laws.Derives.{Right, parse-right}
use Rattle.soundness.specs.Laws.Keeps.{parse-keeps}
use Rattle.soundness.specs.Laws.Unsigned.{unsigned_reads_lem}

-- ---- an answer and what is said of it

module _ (g : Grammar) (tokens made : List ℕ) (moves : ℕ) where
  right-said : (a : Answer) → Right g tokens a made → ((answer_of a moves).number ≢ 9) × ((answer_of a moves).number ≢ 10)
  right-said (Err (Underflow _ _)) k = elim k [ ]
  right-said (Err (NoGoto _ _)) k = elim k [ ]
  right-said (Ok n) k = (λ e. omega arith, λ e. omega arith)
  right-said (Err (Token i)) k = (λ e. omega arith, λ e. omega arith)
  right-said (Err (Syntax i)) k = (λ e. omega arith, λ e. omega arith)
  right-said (Err (Stack i)) k = (λ e. omega arith, λ e. omega arith)
  right-said (Err (Output i)) k = (λ e. omega arith, λ e. omega arith)
  right-said (Err (Moves i)) k = (λ e. omega arith, λ e. omega arith)
  right-said (Err (BadCell x)) k = (λ e. omega arith, λ e. omega arith)

-- OK of a parse is said of what is accepted
said-accepted : {n k : ℕ} (a : Answer) (moves : ℕ) → answer_of a moves ≡ OK (n ∷ k ∷ []) → a ≡ Ok n
said-accepted (Ok m) moves e = ap Ok (ap (λ (s : Said). get_or s.values 0 0) e)
said-accepted (Err (Token i)) moves e = absurd (let k : ◌≡◌ {A = ℕ} 7 0 = ap (λ (s : Said). s.number) e in omega arith)
said-accepted (Err (Syntax i)) moves e = absurd (let k : ◌≡◌ {A = ℕ} 8 0 = ap (λ (s : Said). s.number) e in omega arith)
said-accepted (Err (Underflow i r)) moves e = absurd (let k : ◌≡◌ {A = ℕ} 9 0 = ap (λ (s : Said). s.number) e in omega arith)
said-accepted (Err (NoGoto i r)) moves e = absurd (let k : ◌≡◌ {A = ℕ} 10 0 = ap (λ (s : Said). s.number) e in omega arith)
said-accepted (Err (Stack i)) moves e = absurd (let k : ◌≡◌ {A = ℕ} 11 0 = ap (λ (s : Said). s.number) e in omega arith)
said-accepted (Err (Output i)) moves e = absurd (let k : ◌≡◌ {A = ℕ} 12 0 = ap (λ (s : Said). s.number) e in omega arith)
said-accepted (Err (Moves i)) moves e = absurd (let k : ◌≡◌ {A = ℕ} 13 0 = ap (λ (s : Said). s.number) e in omega arith)
said-accepted (Err (BadCell x)) moves e = absurd (let k : ◌≡◌ {A = ℕ} 14 0 = ap (λ (s : Said). s.number) e in omega arith)

-- the list holds the reductions made, then 0: its first n are those where n are made
first_made : {n : ℕ} (made list : List ℕ) → n ≡ length made → take n (made ++ replicate (length list - length made) 0) ≡ made
first_made made list e = rw e (take-append_seam made (replicate (length list - length made) 0))

-- ---- a plain parse

module _ (z : Sizes) (states : ℕ) (left lens rights : List ℕ) (table : List ℤ) (srule sgoto : List ℕ) (tokens : List ℕ) (limit : ℕ) (stack list : List ℕ) where
  abbrev outcome : Outcome
  outcome = plain_parse z states left lens rights table srule sgoto tokens limit stack list

  abbrev ran : Result
  ran = parse (grammar z left lens rights) (plain_reads z table srule sgoto) (job tokens stack list) limit

  -- where nothing is refused it says SIZE, or what the machine leaves
  good-outcome : judgement z states left lens rights table srule sgoto ≡ OK [] → outcome ≡ cond (job_fits tokens limit) (leaves ran stack list) (unchanged SIZE stack list)
  unfolding plain_parse judged_then
  good-outcome good = rw good

  -- where it says OK, tokens and limit are in their bounds, and the machine accepted
  record Accepting (n : ℕ) : Type 0 where
    fits : job_fits tokens limit ≡ true
    same : outcome ≡ leaves ran stack list
    accepted : ran.answer ≡ Ok n

  ok-accepts : (n k : ℕ) → outcome.said ≡ OK (n ∷ k ∷ []) → Accepting n
  unfolding plain_parse judged_then unchanged leaves
  ok-accepts n k e = by (job_fits tokens limit) refl (judged-cases z states left lens rights table srule sgoto) e
    where
      judged : Said
      judged = judgement z states left lens rights table srule sgoto

      by : (b : Bool) → job_fits tokens limit ≡ b → (judged ≡ OK []) ⊎ ((1 ≤ judged.number) × (judged.number ≤ 4)) → outcome.said ≡ OK (n ∷ k ∷ []) → Accepting n
      by false f c q = absurd (let i : ◌≡◌ {A = ℕ} 1 0 = ap (λ (s : Said). s.number) (rw f at q) in omega arith)
      by true f (inl good) q =
          let r : outcome ≡ leaves ran stack list = rw (f, good) in
          record { fits = f; same = r; accepted = said-accepted ran.answer ran.moves (ap (λ (o : Outcome). o.said) (sym r) ∙ q) }
      by true f (inr c) q =
          let i : judged.number ≡ 0 = ap (λ (s : Said). s.number) (rw (f, ne_eqb judged.number 0 (λ j. omega arith)) at q) in
          absurd (omega arith)

-- ---- where the check says OK

module _ (z : Sizes) (states : ℕ) (left lens rights : List ℕ) (table : List ℤ) (srule sgoto : List ℕ)
    (passed : checked z states left lens rights table srule sgoto ≡ OK []) where
  abbrev g : Grammar
  g = grammar z left lens rights

  abbrev u : Reads
  u = unsigned_reads z table

  abbrev v : Reads
  v = plain_reads z table srule sgoto

  passed-good : (judgement z states left lens rights table srule sgoto ≡ OK []) × Sound g u v
  passed-good = (checked-exact z states left lens rights table srule sgoto sound).0 passed

  pub passed-right : (j : Job) (limit : ℕ) → Right g j.tokens (parse g v j limit).answer (parse g v j limit).made
  passed-right j limit =
      parse-right g u v (plain-fills z table srule sgoto) (good-proper z states left lens rights table srule sgoto passed-good.0) passed-good.1 j limit

  module _ (tokens : List ℕ) (limit : ℕ) (stack list : List ℕ) where
    abbrev parsed : Outcome
    parsed = outcome z states left lens rights table srule sgoto tokens limit stack list

    abbrev end : Result
    end = ran z states left lens rights table srule sgoto tokens limit stack list

    numbers : (b : Bool) → ((cond b (leaves end stack list) (unchanged SIZE stack list)).said.number ≢ 9)
        × ((cond b (leaves end stack list) (unchanged SIZE stack list)).said.number ≢ 10)
    unfolding leaves unchanged
    numbers true = right-said g tokens end.made end.moves end.answer (passed-right (job tokens stack list) limit)
    numbers false = (λ e. omega arith, λ e. omega arith)

    pub passed-never : (parsed.said.number ≢ 9) × (parsed.said.number ≢ 10)
    passed-never = rw (good-outcome z states left lens rights table srule sgoto tokens limit stack list passed-good.0) (numbers (job_fits tokens limit))

    pub passed-derives : (n k : ℕ) → parsed.said ≡ OK (n ∷ k ∷ []) → Terminals g.T tokens × Rightmost g (g.T ∷ []) (reverse (take n parsed.list)) tokens
    unfolding leaves
    passed-derives n k e =
        let a : Accepting z states left lens rights table srule sgoto tokens limit stack list n = ok-accepts z states left lens rights table srule sgoto tokens limit stack list n k e in
        let r : (n ≡ length end.made) × Terminals g.T tokens × Rightmost g (g.T ∷ []) (reverse end.made) tokens =
        subst (λ (x : Answer). Right g tokens x end.made) a.accepted (passed-right (job tokens stack list) limit) in
        rw (a.same, first_made end.made list r.0) (r.1, r.2)

    pub passed-keeps : (n : ℕ) → job_fits tokens limit ≡ true → (parse g u (job tokens stack list) limit).answer ≡ Ok n
        → parsed ≡ leaves (parse g u (job tokens stack list) limit) stack list
    passed-keeps n h e =
        good-outcome z states left lens rights table srule sgoto tokens limit stack list passed-good.0
        ∙ rw (h, parse-keeps g (plain-fills z table srule sgoto) (job tokens stack list) limit e)

    -- what the plain parse accepts with nothing signed
    pub passed-keeps-plain : (rule₀ goto₀ : List ℕ) → ((s : ℕ) → get_or rule₀ s 0 ≡ 0) → ((i : ℕ) → get_or goto₀ i 0 ≡ 0) → (n k : ℕ)
        → (plain_parse z states left lens rights table rule₀ goto₀ tokens limit stack list).said ≡ OK (n ∷ k ∷ [])
        → parsed ≡ plain_parse z states left lens rights table rule₀ goto₀ tokens limit stack list
    passed-keeps-plain rule₀ goto₀ p q n k e =
        let a : Accepting z states left lens rights table rule₀ goto₀ tokens limit stack list n = ok-accepts z states left lens rights table rule₀ goto₀ tokens limit stack list n k e in
        let w : plain_reads z table rule₀ goto₀ ≡ u = unsigned_reads_lem z table rule₀ goto₀ p q in
        passed-keeps n a.fits (subst (λ (m : Reads). (parse g m (job tokens stack list) limit).answer ≡ Ok n) w a.accepted)
        ∙ ap (λ (m : Reads). leaves (parse g m (job tokens stack list) limit) stack list) (sym w) ∙ sym a.same
