-- What handing out the house notation says as Rust gets it, with the arrays that are left.
use Rattle.std.specs.Prelude.{List, ℕ, ℤ}
use Rattle.answers.specs.declared.Answer.{Answer}
use Rattle.answers.specs.Answer.{answer_of}
use Rattle.house.specs.Handed.{Handed}

-- the answer, with the four arrays
pub record Lent : Type 0 where
  pub said : Answer
  pub left : List ℕ
  pub lens : List ℕ
  pub rights : List ℕ
  pub table : List ℤ

abbrev pub lent : Answer → List ℕ → List ℕ → List ℕ → List ℤ → Lent
lent said left lens rights table = record { said = said; left = left; lens = lens; rights = rights; table = table }

abbrev pub lent_of : Handed → Lent
lent_of h = lent (answer_of h.said) h.left h.lens h.rights h.table
