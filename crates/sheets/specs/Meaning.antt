-- What a text means: a signing that fits and that SIGN does not refuse, whose text it is.
use Rattle.std.specs.Prelude.{◌≡◌, true, List, ℕ, length}
use Rattle.tables.specs.declared.Sizes.{Sizes}
use Rattle.tables.specs.Size.{signing_fits}
use Rattle.tables.specs.Judgement.{sign_judgement}
use Rattle.sheets.specs.Sheet.{sheet_text}

-- the sizes fit, and SIGN refuses nothing
pub record Signed (z : Sizes) (states : ℕ) (srule sgoto : List ℕ) : Type 0 where
  pub fits : signing_fits z states srule sgoto ≡ true
  pub judged : (sign_judgement z states srule sgoto).number ≡ 0

-- a text of n bytes means this signing
pub record Meaning (z : Sizes) (states : ℕ) (text : List ℕ) (n : ℕ) (srule sgoto : List ℕ) : Type 0 where
  pub good : Signed z states srule sgoto
  pub same : text ≡ sheet_text z states srule sgoto
  pub size : n ≡ length text
