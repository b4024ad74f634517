-- What packing says as Rust gets it, with the arrays that are left.
use Rattle.packing.specs.Bench.{Bench}
use Rattle.packing.specs.Packing.{Result}
use Rattle.answers.specs.declared.Answer.{Answer}
use Rattle.answers.specs.Answer.{answer_of}

-- the answer, with the four arrays
pub record Told : Type 0 where
  pub said : Answer
  pub arrays : Bench

abbrev pub told : Answer → Bench → Told
told a b = record { said = a; arrays = b }

abbrev pub told_of : Result → Told
told_of r = told (answer_of r.said) r.arrays
