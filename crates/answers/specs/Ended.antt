-- A parse's answer as Rust gets it, with the arrays that are left.
use Rattle.std.specs.Prelude.{ℕ, List}
use Rattle.machine.specs.Outcome.{Outcome}
use Rattle.answers.specs.declared.ParseAnswer.{ParseAnswer}
use Rattle.answers.specs.Answer.{answer_of, counted}

-- the answer, with the stack and the list
pub record Ended : Type 0 where
  pub said : ParseAnswer
  pub stack : List ℕ
  pub list : List ℕ

abbrev pub ended : ParseAnswer → List ℕ → List ℕ → Ended
ended a stack list = record { said = a; stack = stack; list = list }

abbrev pub ended_of : Outcome → Ended
ended_of o = ended (counted (answer_of o.said) o.moves) o.stack o.list
