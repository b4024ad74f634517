-- What packing answers for a table and a signing that are not refused. Assumes nothing.
use Rattle.std.specs.Prelude.{◌≡◌, ℕ, ◌+◌, ◌*◌, ◌≤◌, List, ℤ}
use Rattle.std.proofs.Common.{arith}
use Rattle.std.proofs.Math.Option.{some}
use Rattle.tables.specs.declared.Sizes.{Sizes}
use Rattle.packing.specs.Job.{job_of}
use Rattle.packing.specs.Bench.{placement_b}
use Rattle.packing.specs.Packed.{Packed, bound, pack, bench_of}
use Rattle.packing.specs.Valid.{Valid, Edition}
use Rattle.packing.specs.Promises.{IsCount, Housed, Sized, Room}
use Rattle.packing.specs.Laws.WellFormed.{WF}
use Rattle.packing.specs.Laws.Packed.{packed-sized, packed-housed, packed-counted}
use Rattle.packing.specs.Laws.Total.{pack-room, count-bounded}
use Rattle.packing.specs.Laws.Machine.{machine}
use Rattle.packing.specs.Laws.Valid.{job-wf}

module _ (z : Sizes) (states : ℕ) (table : List ℤ) (srule sgoto : List ℕ) (v : Valid z states table srule sgoto) (off : ℕ → ℕ) (ed : Edition z.terminals off) where
  wf : WF (job_of off z states table srule sgoto)
  wf = job-wf z states table srule sgoto v off ed

  pub job-machine : (W : ℕ)
      → placement_b (job_of off z states table srule sgoto) W (bound (job_of off z states table srule sgoto)) ≡ bench_of (pack (job_of off z states table srule sgoto) W)
  job-machine W =
      machine (job_of off z states table srule sgoto) wf W

  pub job-room : Room (job_of off z states table srule sgoto)
  job-room = pack-room (job_of off z states table srule sgoto) wf

  pub job-always : (W : ℕ) → 2 * z.symbols + states * (4 * z.symbols + 4) ≤ W → (A : Packed) × (pack (job_of off z states table srule sgoto) W ≡ some A)
  job-always W l =
      let b : job-room.cells ≤ 2 * z.symbols + states * (4 * z.symbols + 4) = unfold job_of bound in job-room.bounded in
      let p = job-room.enough W (omega arith) in (p.0, p.1)

  module _ (W : ℕ) (A : Packed) (e : pack (job_of off z states table srule sgoto) W ≡ some A) where
    pub job-counted : IsCount A.marks A.count
    job-counted = packed-counted (job_of off z states table srule sgoto) W A e wf.some-states

    pub job-count-bound : (A.count ≤ W) × (A.count ≤ 2 * z.symbols + states * (4 * z.symbols + 4))
    job-count-bound = unfold job_of bound in count-bounded (job_of off z states table srule sgoto) job-room W A e

    pub job-housed : Housed W states A.places
    job-housed = unfold job_of in packed-housed (job_of off z states table srule sgoto) W A e wf.some-states

    pub job-sized : Sized W states A
    job-sized = unfold job_of in packed-sized (job_of off z states table srule sgoto) W A e
