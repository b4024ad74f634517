-- Where the judgement refuses nothing, table and signing are valid. Assumes nothing.
use Rattle.std.specs.Prelude.{◌≡◌, ℕ, List, [], ℤ}
use Rattle.std.proofs.Common.{ap}
use Rattle.tables.specs.declared.Sizes.{Sizes}
use Rattle.tables.specs.Said.{Said, OK}
use Rattle.tables.specs.Judgement.{judgement}
use Rattle.tables.specs.Laws.Size.{all_fit_lem}
use Rattle.tables.specs.Laws.Numbers.{judged-zero}
use Rattle.packing.specs.Valid.{Valid}

module _ (z : Sizes) (states : ℕ) (left lens rights : List ℕ) (table : List ℤ) (srule sgoto : List ℕ) where
  pub judged-valid : judgement z states left lens rights table srule sgoto ≡ OK [] → Valid z states table srule sgoto
  judged-valid h =
      let u = judged-zero z states left lens rights table srule sgoto (ap (λ (s : Said). s.number) h) in
      let a = all_fit_lem z states left lens rights table srule sgoto u.fit in
      record { signing-size = a.signing; table-size = a.table-size; entries = u.entries; rules = u.signatures; targets = u.targets }
