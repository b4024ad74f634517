-- An answer as Rust gets it: its number, how many values come with it, and the values, 0 where there is none.
use Rattle.std.specs.Prelude.{ℕ, length, get_or}
use Rattle.tables.specs.Said.{Said}
use Rattle.answers.specs.declared.Answer.{Answer}
use Rattle.answers.specs.declared.ParseAnswer.{ParseAnswer}

abbrev pub answer_of : Said → Answer
answer_of s =
    record {
      number = s.number;
      count = length s.values;
      first = get_or s.values 0 0;
      second = get_or s.values 1 0;
    }

-- the same with the count of moves
abbrev pub counted : Answer → ℕ → ParseAnswer
counted a moves = record { number = a.number; count = a.count; first = a.first; second = a.second; moves = moves }
