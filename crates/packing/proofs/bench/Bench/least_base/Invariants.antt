use Rattle.std.specs.Prelude.{◌≡◌, ◌≤◌, ◌<◌, ℕ, true, false, take}
use Rattle.packing.specs.Bench.{free_b}
use Rattle.packing.specs.Gathered.{every_from, test_b}
use Rattle.packing.specs.Lent.{as_kind, cells}
use Rattle.packing.proofs.bench.Bench.least_base.Given as goal

-- no base before b passes
abbrev pub invariant-bases : goal.invariant-bases
invariant-bases l = (k : ℕ) → 1 ≤ k → k < l.b → test_b (cells l.self) (as_kind l.row.kind) l.row.state l.need k ≡ false

-- the cells before c are free from b
abbrev pub invariant-loop-c : goal.invariant-loop-c
invariant-loop-c l = every_from (free_b (cells l.self)) l.b (take l.c-index l.need) ≡ true
