-- What reading and writing a sheet say as Rust gets it, with the arrays that are left.
use Rattle.std.specs.Prelude.{ℕ, List}
use Rattle.sheets.specs.Outcome.{ReadOutcome, WriteOutcome}
use Rattle.answers.specs.declared.Answer.{Answer}
use Rattle.answers.specs.Answer.{answer_of}

-- the reader's answer, with the signing
pub record Read : Type 0 where
  pub said : Answer
  pub srule : List ℕ
  pub sgoto : List ℕ

abbrev pub read : Answer → List ℕ → List ℕ → Read
read a srule sgoto = record { said = a; srule = srule; sgoto = sgoto }

abbrev pub read_of : ReadOutcome → Read
read_of o = read (answer_of o.said) o.srule o.sgoto

-- the writer's answer, with the buffer
pub record Written : Type 0 where
  pub said : Answer
  pub buffer : List ℕ

abbrev pub written : Answer → List ℕ → Written
written a buffer = record { said = a; buffer = buffer }

abbrev pub written_of : WriteOutcome → Written
written_of o = written (answer_of o.said) o.buffer
