-- 'The small board, worked': its table and signing, and the 21 cells that they are packed into.
use Rattle.std.specs.Prelude.{ℕ, List, [], ◌∷◌, ℤ, pos}
use Rattle.tables.specs.declared.Sizes.{Sizes}
use Rattle.cells.specs.Read.{twice}
use Rattle.packing.specs.Job.{Job, job_of, neg}
use Rattle.packing.specs.Packed.{Packed}

abbrev pub small_sizes : Sizes
small_sizes = record { terminals = 3; symbols = 6; rules = 5 }

abbrev pub small_table : List ℤ
small_table =
    pos 0 ∷ pos 3 ∷ pos 4 ∷ pos 0 ∷ pos 1 ∷ pos 2 ∷
    neg 1 ∷ pos 3 ∷ pos 4 ∷ pos 0 ∷ pos 0 ∷ pos 5 ∷
    neg 3 ∷ neg 3 ∷ neg 3 ∷ pos 0 ∷ pos 0 ∷ pos 0 ∷
    neg 4 ∷ neg 4 ∷ neg 4 ∷ pos 0 ∷ pos 0 ∷ pos 0 ∷
    pos 0 ∷ pos 6 ∷ pos 0 ∷ pos 0 ∷ pos 0 ∷ pos 0 ∷
    neg 2 ∷ neg 2 ∷ neg 2 ∷ pos 0 ∷ pos 0 ∷ pos 0 ∷
    neg 5 ∷ neg 5 ∷ neg 5 ∷ pos 0 ∷ pos 0 ∷ pos 0 ∷ []

abbrev pub small_rules : List ℕ
small_rules = 0 ∷ 0 ∷ 3 ∷ 4 ∷ 0 ∷ 2 ∷ 5 ∷ []

abbrev pub small_targets : List ℕ
small_targets = 0 ∷ 1 ∷ 5 ∷ []

abbrev pub small_job : Job
small_job = job_of twice small_sizes 7 small_table small_rules small_targets

abbrev pub small_packed : Packed
small_packed =
    record {
      bases =
          pos 1 ∷ pos 2 ∷ pos 0 ∷ pos 2 ∷ pos 0 ∷ pos 17 ∷ pos 0 ∷ pos 0 ∷ pos 14 ∷ pos 0 ∷ pos 2 ∷ pos 0 ∷ pos 2 ∷ pos 0 ∷ neg 1 ∷ pos 0 ∷ neg 8 ∷ pos 0 ∷
          neg 10 ∷ pos 2 ∷ pos 0 ∷ [];
      checks =
          pos 6 ∷ pos 6 ∷ pos 6 ∷ pos 1 ∷ neg 4 ∷ pos 2 ∷ pos 6 ∷ pos 6 ∷ pos 4 ∷ pos 6 ∷ pos 5 ∷ neg 2 ∷ pos 5 ∷ neg 3 ∷ pos 0 ∷ pos 6 ∷ pos 1 ∷ pos 6 ∷
          pos 2 ∷ pos 1 ∷ neg 5 ∷ [];
      marks = 1 ∷ 1 ∷ 0 ∷ 1 ∷ 1 ∷ 1 ∷ 1 ∷ 0 ∷ 1 ∷ 1 ∷ 1 ∷ 1 ∷ 1 ∷ 1 ∷ 1 ∷ 0 ∷ 1 ∷ 0 ∷ 1 ∷ 1 ∷ 1 ∷ [];
      places = 0 ∷ 8 ∷ 12 ∷ 3 ∷ 5 ∷ 10 ∷ 19 ∷ [];
      count = 21;
    }
