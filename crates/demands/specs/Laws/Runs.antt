-- A parse ends as its moves make it end. Assumes nothing.
use Rattle.std.proofs.Math.Path.{◌≡◌, refl}
use Rattle.std.specs.Prelude.{◌↔◌, Bool, true, false, ltb, Err, ℕ, zero, suc, ◌≤◌, ◌<◌}
use Rattle.std.proofs.Common.{arith, ltb-true, ltb-false, lt-ltb}
use Rattle.tables.specs.Grammar.{Grammar}
use Rattle.machine.specs.declared.Stop.TheVariants.{Moves}
use Rattle.reads.specs.Reads.{Reads}
use Rattle.machine.specs.Machine.{Job, Config, Result, Step, on, halt, refused, move, then, run, start, begun, parse}
use Rattle.machine.specs.Steps.{and_on, steps}
use Rattle.demands.specs.Moves.{RunEnds, no_stack, halted, limited}
use Rattle.demands.specs.Laws.Rows.{exactly}

module _ (g : Grammar) (m : Reads) (j : Job) where
  -- a run from c with n moves left ends so
  data Ends (n : ℕ) (c : Config) : Result → Type 0 where
    by_move : {r : Result} (k : ℕ) (d : Config) → k < n → steps g m j k c ≡ on d → move g m j d ≡ halt r → Ends n c r
    by-limit : (d : Config) → steps g m j n c ≡ on d → Ends n c (refused (Err (Moves d.place)) d)

  run_ends : (n : ℕ) (c : Config) → Ends n c (run g m j n c)
  unfolding run steps and_on then
  run_ends zero c = by-limit c refl
  run_ends (suc n) c = by (move g m j c) refl (run_ends n)
    where
      more : {d : Config} {r : Result} → move g m j c ≡ on d → Ends n d r → Ends (suc n) c r
      more q (by_move k e h p s) = by_move (suc k) e (omega arith) (rw q p) s
      more q (by-limit e p) = by-limit e (rw q p)

      by : (s : Step) → move g m j c ≡ s → ((d : Config) → Ends n d (run g m j n d)) → Ends (suc n) c (then (run g m j n) s)
      by (on d) q next = more q (next d)
      by (halt r) q next = by_move 0 c (omega arith) refl q

  moved-run : {r : Result} (k n : ℕ) (c d : Config) → k < n → steps g m j k c ≡ on d → move g m j d ≡ halt r → run g m j n c ≡ r
  unfolding run steps and_on then
  moved-run k zero c d h p q = absurd (omega arith)
  moved-run zero (suc n) c d h p q = let e : c ≡ d = cc in rw (e, q)
  moved-run {r} (suc k) (suc n) c d h p q = by (move g m j c) refl p (λ b. moved-run k n b d (omega arith))
    where
      by : (s : Step) → move g m j c ≡ s → and_on (steps g m j k) s ≡ on d
          → ((b : Config) → steps g m j k b ≡ on d → move g m j d ≡ halt r → run g m j n b ≡ r) → then (run g m j n) s ≡ r
      by (on b) s e next = next b e q
      by (halt x) s e next = let y : ◌≡◌ {A = ℕ} 0 1 = cc in absurd (omega arith)

  limit-run : (n : ℕ) (c d : Config) → steps g m j n c ≡ on d → run g m j n c ≡ refused (Err (Moves d.place)) d
  unfolding run steps and_on then
  limit-run zero c d p = let e : c ≡ d = cc in rw e
  limit-run (suc n) c d p = by (move g m j c) p (λ b. limit-run n b d)
    where
      by : (s : Step) → and_on (steps g m j n) s ≡ on d → ((b : Config) → steps g m j n b ≡ on d → run g m j n b ≡ refused (Err (Moves d.place)) d)
          → then (run g m j n) s ≡ refused (Err (Moves d.place)) d
      by (on b) e next = next b e
      by (halt x) e next = let y : ◌≡◌ {A = ℕ} 0 1 = cc in absurd (omega arith)

  -- a parse ends in one of the three ways
  pub parse-ends : (limit : ℕ) → RunEnds g m j limit (parse g m j limit)
  unfolding parse begun
  parse-ends limit = by (ltb 0 j.stack) refl
    where
      from : {r : Result} → 0 < j.stack → Ends limit start r → RunEnds g m j limit r
      from h (by_move k d l p q) = halted h k d l p q
      from h (by-limit d p) = limited h d p

      by : (b : Bool) → ltb 0 j.stack ≡ b → RunEnds g m j limit (begun g m j limit b)
      by true q = from (ltb-true 0 j.stack q) (run_ends limit start)
      by false q = no_stack (let l : j.stack ≤ 0 = ltb-false 0 j.stack q in omega arith)

  -- and no other way
  pub ends-parse : (limit : ℕ) (r : Result) → RunEnds g m j limit r → parse g m j limit ≡ r
  unfolding parse begun
  ends-parse limit r (no_stack e) = rw e
  ends-parse limit r (halted h k c l p q) = rw (lt-ltb 0 j.stack h) (moved-run k limit start c l p q)
  ends-parse limit r (limited h c p) = rw (lt-ltb 0 j.stack h) (limit-run limit start c p)

  pub parse-exactly : (limit : ℕ) (r : Result) → (parse g m j limit ≡ r) ↔ RunEnds g m j limit r
  parse-exactly limit = exactly (RunEnds g m j limit) (ends-parse limit) (parse g m j limit, parse-ends limit)
