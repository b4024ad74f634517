-- What reading and writing a sheet say and leave, for all inputs.
use Rattle.std.specs.Prelude.{ℕ, cond, Result, Ok, Err, List, [], ◌∷◌, ◌++◌, leb, eqb, length, take, drop}
use Rattle.tables.specs.declared.Sizes.{Sizes}
use Rattle.tables.specs.Said.{Said, OK, SIZE, LINE, TEXT}
use Rattle.tables.specs.Size.{signing_fits}
use Rattle.tables.specs.Judgement.{refused, sign_judgement}
use Rattle.sheets.specs.declared.ReadRefusal.{ReadRefusal}
use Rattle.sheets.specs.declared.ReadRefusal.TheVariants as read_refusal
use Rattle.sheets.specs.declared.WriteRefusal.{WriteRefusal}
use Rattle.sheets.specs.declared.WriteRefusal.TheVariants as write_refusal
use Rattle.sheets.specs.Sheet.{sheet_text}
use Rattle.sheets.specs.Lines.{Told, values, bad_line, lines_of}

-- reading gives the length of the text, or what it refuses
abbrev pub Reading : Type 0
Reading = Result ℕ ReadRefusal

-- writing gives the length of the text, or what it refuses
abbrev pub Writing : Type 0
Writing = Result ℕ WriteRefusal

-- the number and the values of each refusal of the reader
abbrev pub read_refused : ReadRefusal → Said
read_refused (read_refusal.Line n) = LINE n
read_refused (read_refusal.Judged e) = refused e

-- the number and the values of each case of reading
abbrev pub read_said : Reading → Said
read_said (Ok n) = OK (n ∷ [])
read_said (Err e) = read_refused e

-- the number and the values of each refusal of the writer
abbrev pub write_refused : WriteRefusal → Said
write_refused write_refusal.Text = TEXT
write_refused (write_refusal.Judged e) = refused e

-- the number and the values of each case of writing
abbrev pub write_said : Writing → Said
write_said (Ok n) = OK (n ∷ [])
write_said (Err e) = write_refused e

-- what is said, and the final content of the signing
pub record ReadOutcome : Type 0 where
  pub said : Said
  pub srule : List ℕ
  pub sgoto : List ℕ

-- these three together
abbrev pub read_outcome : Said → List ℕ → List ℕ → ReadOutcome
read_outcome said srule sgoto = record { said = said; srule = srule; sgoto = sgoto }

-- what is said, and the final content of the buffer
pub record WriteOutcome : Type 0 where
  pub said : Said
  pub buffer : List ℕ

-- these two together
abbrev pub write_outcome : Said → List ℕ → WriteOutcome
write_outcome said buffer = record { said = said; buffer = buffer }

-- a signing that was read takes the place of the old one if SIGN refuses nothing; else the old one is unchanged
unfoldable pub signed_or : Said → ℕ → List ℕ → List ℕ → List ℕ → List ℕ → ReadOutcome
signed_or judged size rules targets srule sgoto =
    cond (eqb judged.number 0) (read_outcome (OK (size ∷ [])) rules targets) (read_outcome judged srule sgoto)

-- the values are the entries of the states, then those of the nonterminals but T, whose entry is 0
abbrev pub told_by : Sizes → ℕ → ℕ → List ℕ → List ℕ → Told → ReadOutcome
told_by z states size srule sgoto (bad_line n) = read_outcome (LINE n) srule sgoto
told_by z states size srule sgoto (values vs) =
    signed_or (sign_judgement z states (take states vs) (0 ∷ drop states vs)) size (take states vs) (0 ∷ drop states vs) srule sgoto

-- SIZE, LINE, SIGN, else OK with the length of the text
unfoldable pub sheet_read : Sizes → ℕ → List ℕ → List ℕ → List ℕ → ReadOutcome
sheet_read z states text srule sgoto =
    cond (signing_fits z states srule sgoto)
    (told_by z states (length text) srule sgoto (lines_of z states text))
    (read_outcome SIZE srule sgoto)

-- the text at the front of the buffer, its other bytes unchanged; TEXT where it is longer than the buffer
unfoldable pub put_or : List ℕ → List ℕ → WriteOutcome
put_or text buffer =
    cond (leb (length text) (length buffer))
    (write_outcome (OK (length text ∷ [])) (text ++ drop (length text) buffer))
    (write_outcome TEXT buffer)

-- a signing that SIGN refuses is not written
unfoldable pub judged_put : Said → List ℕ → List ℕ → WriteOutcome
judged_put judged text buffer = cond (eqb judged.number 0) (put_or text buffer) (write_outcome judged buffer)

-- SIZE, SIGN, TEXT, else OK with the length of the text
unfoldable pub sheet_write : Sizes → ℕ → List ℕ → List ℕ → List ℕ → WriteOutcome
sheet_write z states srule sgoto buffer =
    cond (signing_fits z states srule sgoto)
    (judged_put (sign_judgement z states srule sgoto) (sheet_text z states srule sgoto) buffer)
    (write_outcome SIZE buffer)
