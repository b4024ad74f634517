use Rattle.std.specs.Prelude.{◌≡◌, ◌≤◌, ◌<◌, ℕ, false}
use Rattle.packing.specs.Bench.{free2_b}
use Rattle.packing.specs.Lent.{cells}
use Rattle.packing.proofs.bench.Bench.least_home.Given as goal

abbrev pub invariant-loop-x : goal.invariant-loop-x
invariant-loop-x l = (k : ℕ) → 1 ≤ k → k < l.x → free2_b (cells l.self) k ≡ false
