use Rattle.std.proofs.Common.{◌≡◌, Bool, false, List, ℕ, ◌<◌, length, get_or, take}
use Rattle.tables.specs.Lists.{among}
use Rattle.tables.specs.Signing.{good_target}
use Rattle.tables.specs.Laws.Lowest.{Walk}
use Rattle.judgement.proofs.signing.lowest_target.Given as goal

-- the nonterminals before i are good, and `seen` marks the states that they sign
pub record Passing (states : ℕ) (sgoto : List ℕ) (seen : List Bool) (i : ℕ) : Type 0 where
  pub walk : Walk (good_target states sgoto) (length sgoto) i
  pub size : length seen ≡ 1024
  pub marks : (t : ℕ) → 0 < t → get_or seen t false ≡ among t (take i sgoto)

abbrev pub invariant-loop-i : goal.invariant-loop-i
invariant-loop-i l = Passing l.states l.targets l.seen l.i
