-- Bytes put with a pen.
use Rattle.std.specs.Prelude.{◌≡◌, List, ℕ, ◌≤◌, length}
use Rattle.sheets.specs.Emit.{Emitted}
use Rattle.texts.specs.declared.pen.Pen.{Pen}

-- these bytes were put from the pen's place on, and it writes into the same buffer
pub record Puts (before : Pen) (bytes : List ℕ) (after : Pen) : Type 0 where
  pub put : Emitted before.buffer.now before.at bytes after.at after.buffer.now
  pub lent : after.buffer.ghost_name ≡ before.buffer.ghost_name

-- these bytes were put, and they are at most so many
pub record Brief (most : ℕ) (before : Pen) (bytes : List ℕ) (after : Pen) : Type 0 where
  pub puts : Puts before bytes after
  pub few : length bytes ≤ most
