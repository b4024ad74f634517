-- A table and a signing that are not refused take one number of cells. Assumes nothing.
use Rattle.std.specs.Prelude.{◌≡◌, List, [], ◌∷◌, ℕ, ◌+◌, ◌*◌, ◌≤◌, ℤ, length}
use Rattle.std.proofs.Common.{ap, ◌∙◌}
use Rattle.tables.specs.declared.Sizes.{Sizes}
use Rattle.tables.specs.Said.{OK}
use Rattle.tables.specs.Judgement.{judgement}
use Rattle.cells.specs.Read.{twice}
use Rattle.packing.specs.Job.{job_of}
use Rattle.packing.specs.Packed.{bound}
use Rattle.packing.specs.Packing.{packing_result}
use Rattle.packing.specs.Promises as packing
use Rattle.packing.specs.Written.{bench}
use Rattle.packing.specs.Theorems.{judged, this-edition, room}
use Rattle.demands.specs.Says.{SaysPack}
use Rattle.demands.specs.Room.{Takes}
use Rattle.demands.specs.Laws.Judged.{pack-exactly}

module _ (z : Sizes) (states : ℕ) (left lens rights : List ℕ) (table : List ℤ) (srule sgoto : List ℕ)
    (good : judgement z states left lens rights table srule sgoto ≡ OK []) where
  needed : packing.Room (job_of twice z states table srule sgoto)
  needed = room z states table srule sgoto (judged z states left lens rights table srule sgoto good) twice (this-edition z.terminals)

  within : needed.cells ≤ 2 * z.symbols + states * (4 * z.symbols + 4)
  within = unfold job_of bound in needed.bounded

  pub takes : Takes z states left lens rights table srule sgoto
  takes =
      record {
        cells = needed.cells;
        bounded = within;
        enough = λ B f h.
            let w = needed.enough (length B.bases) h in
            let A = w.0 in (
              bench A.bases A.checks A.marks A.places,
              (pack-exactly z states left lens rights table srule sgoto B _).1 (SaysPack.placed f good A w.1)
                  ∙ ap (λ (n : ℕ). packing_result (OK (n ∷ [])) (bench A.bases A.checks A.marks A.places)) w.2,
            );
        too_few = λ B f h. (pack-exactly z states left lens rights table srule sgoto B _).1 (SaysPack.no_room f good (needed.too_few (length B.bases) h));
      }
