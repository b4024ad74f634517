-- The number and the values of each of the check's answers.
use Rattle.std.specs.Prelude.{[], Result, Ok, Err}
use Rattle.tables.specs.Said.{Said, OK, UNSOUND}
use Rattle.tables.specs.Judgement as tables
use Rattle.soundness.specs.declared.CheckRefusal.{CheckRefusal}
use Rattle.soundness.specs.declared.CheckRefusal.TheVariants.{Judged, Unsound}

-- the number and the values of each refusal
abbrev pub refused : CheckRefusal → Said
refused (Judged e) = tables.refused e
refused (Unsound s r) = UNSOUND s r

-- what the check says
abbrev pub said_of : Result (Unit {0}) CheckRefusal → Said
said_of (Ok u) = OK []
said_of (Err e) = refused e
