-- The outcome of packing in terms of the board: what is said, and the arrays. Assumes nothing.
use Rattle.std.specs.Prelude.{◌≡◌, refl, true, cond, eqb, Result, Ok, Err, List, [], ℕ, zero, suc, ◌-◌, ◌≤◌, ◌<◌, ℤ, length, get_or}
use Rattle.std.proofs.Common.{sym, ap, ◌∙◌, arith, eq-eqb, ne_eqb}
use Rattle.std.proofs.Math.Decide.{dec_lt}
use Rattle.tables.specs.declared.Sizes.{Sizes}
use Rattle.tables.specs.declared.Refusal.TheVariants.{Size, Grammar, Entry, State, Nonterminal}
use Rattle.tables.specs.Said.{Said, OK}
use Rattle.tables.specs.Judgement.{judgement}
use Rattle.cells.specs.Read.{twice}
use Rattle.packing.specs.declared.PackRefusal.{PackRefusal}
use Rattle.packing.specs.declared.PackRefusal.TheVariants.{Judged, NoRoom}
use Rattle.packing.specs.Job.{job_of}
use Rattle.packing.specs.Bench.{Bench}
use Rattle.packing.specs.Packed.{pack, bench_of}
use Rattle.packing.specs.Promises.{IsCount}
use Rattle.packing.specs.Packing.{said_of, count_upto, count_of, placed_by, arrays_fit, packed}
use Rattle.packing.specs.Laws.Answers.{job-machine}
use Rattle.packing.specs.Laws.Judged.{judged-valid}
use Rattle.packing.specs.Laws.Valid.{edition-twice}

-- where nothing is refused, the outcome is that of placement on the board
pub by-board : (z : Sizes) (states : ℕ) (left lens rights : List ℕ) (table : List ℤ) (srule sgoto : List ℕ) (A : Bench)
    → arrays_fit states A ≡ true → judgement z states left lens rights table srule sgoto ≡ OK []
    → packed z states left lens rights table srule sgoto A ≡ placed_by (bench_of (pack (job_of twice z states table srule sgoto) (length A.bases))) A
unfolding packed
by-board z states left lens rights table srule sgoto A fit good =
    rw (
      fit,
      good,
      job-machine z states table srule sgoto (judged-valid z states left lens rights table srule sgoto good) twice (edition-twice z.terminals) (length A.bases),
    )

-- the count that the code finds is the highest taken cell plus 1
count_upto_lem : (marks : List ℕ) (n : ℕ) → IsCount marks n → (k : ℕ) → n ≤ k → count_upto marks k ≡ n
count_upto_lem marks n c zero l = absurd (omega (arith, c.some-cell))
count_upto_lem marks n c (suc k) l = go (dec_lt k n) (count_upto_lem marks n c k)
  where
    go : Dec (k < n) → (n ≤ k → count_upto marks k ≡ n) → count_upto marks (suc k) ≡ n
    go (yes h) below =
        let e : k ≡ n - 1 = omega arith in
        let m : get_or marks k 0 ≡ 1 = ap (λ (j : ℕ). get_or marks j 0) e ∙ c.taken in
        rw (ne_eqb (get_or marks k 0) 0 (λ q. omega arith)) (let q : suc k ≡ n = omega (arith, c.some-cell) in q)
    go (no h) below = rw (eq-eqb (get_or marks k 0) 0 (c.free-above k (omega arith))) (below (omega arith))

pub count-is : (marks : List ℕ) (n : ℕ) → IsCount marks n → n ≤ length marks → count_of marks ≡ n
unfolding count_of
count-is marks n c l = count_upto_lem marks n c (length marks) l

-- the outcome that a number and its values stand for
abbrev packing_of : ℕ → List ℕ → Result ℕ PackRefusal
packing_of zero vs = Ok (get_or vs 0 0)
packing_of (suc zero) vs = Err (Judged Size)
packing_of (suc (suc zero)) vs = Err (Judged (Grammar (get_or vs 0 0)))
packing_of (suc (suc (suc zero))) vs = Err (Judged (Entry (get_or vs 0 0)))
packing_of (suc (suc (suc (suc zero)))) vs = Err (Judged (cond (eqb (get_or vs 0 0) 0) (State (get_or vs 1 0)) (Nonterminal (get_or vs 1 0))))
packing_of (suc (suc (suc (suc (suc n))))) vs = Err NoRoom

read_back : (a : Result ℕ PackRefusal) → packing_of (said_of a).number (said_of a).values ≡ a
read_back (Ok n) = refl
read_back (Err (Judged Size)) = refl
read_back (Err (Judged (Grammar r))) = refl
read_back (Err (Judged (Entry i))) = refl
read_back (Err (Judged (State s))) = refl
read_back (Err (Judged (Nonterminal x))) = refl
read_back (Err NoRoom) = refl

-- two outcomes that the contract allows for one input are equal
pub packing-once : (a b : Result ℕ PackRefusal) → said_of a ≡ said_of b → a ≡ b
packing-once a b e = sym (read_back a) ∙ ap (λ (s : Said). packing_of s.number s.values) e ∙ read_back b
