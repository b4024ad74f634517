-- The code's values as the specifications see them: the kind of a row, the job, the four arrays, and what a step leaves.
use Rattle.std.specs.Prelude.{◌≡◌, ℕ, Result, Ok, Err}
use Rattle.std.proofs.Math.Option.{Option, none, some}
use Rattle.cells.specs.Read.{Kind, action, goto, twice}
use Rattle.packing.specs.declared.Kind as code
use Rattle.packing.specs.declared.Kind.TheVariants.{Action, Goto}
use Rattle.packing.specs.declared.NoRoom.{NoRoom}
use Rattle.packing.specs.declared.job.Job as code_job
use Rattle.packing.specs.declared.row.Row as code_row
use Rattle.packing.specs.declared.bench.Bench as code_bench
use Rattle.packing.specs.Job.{Act, Job, job_of}
use Rattle.packing.specs.Rows.{row}
use Rattle.packing.specs.Bench.{Bench}
use Rattle.packing.specs.Written.{bench}

-- the kind of a row
abbrev pub as_kind : code.Kind → Kind
as_kind Action = action
as_kind Goto = goto

-- the job of a table and a signing in this edition
abbrev pub asked : code_job.Job → Job
asked j = job_of twice j.sizes j.table.states j.table.entries.now j.signing.rules.now j.signing.targets.now

-- the written row
abbrev pub row_of : code_row.Row → ℕ → Act
row_of r = row (asked r.job) (as_kind r.kind) r.state

-- the contents of the four arrays
abbrev pub cells : code_bench.Bench → Bench
cells b = bench b.base.now b.check.now b.marks.now b.place.now

-- the same four arrays are lent
pub record SameLenders (a b : code_bench.Bench) : Type 0 where
  pub base : b.base.ghost_name ≡ a.base.ghost_name
  pub check : b.check.ghost_name ≡ a.check.ghost_name
  pub marks : b.marks.ghost_name ≡ a.marks.ghost_name
  pub place : b.place.ghost_name ≡ a.place.ghost_name

-- the arrays after a step that had room, or none
abbrev pub kept : Result (Unit {0}) NoRoom → Bench → Option Bench
kept (Ok u) B = some B
kept (Err e) B = none
