-- What a pen puts one after the other. Assumes nothing.
use Rattle.std.specs.Prelude.{◌≡◌, refl, List, [], ◌∷◌, ◌++◌, ℕ, ◌/◌, ◌%◌, ◌≤◌, ◌<◌}
use Rattle.std.proofs.Common.{◌∙◌, append_assoc}
use Rattle.sheets.specs.Decimal.{digit, decimal}
use Rattle.sheets.specs.Emit.{Room}
use Rattle.sheets.specs.Laws.Digits.{decimal-one, decimal-more}
use Rattle.sheets.specs.Laws.Emit as emit
use Rattle.sheets.specs.Laws.Fitting.{few-rules, few-targets, some-target, tail-whole}
use Rattle.sheets.specs.Laws.Wants.{sheet-parts}
use Rattle.texts.specs.declared.pen.Pen.{Pen}
use Rattle.texts.specs.Pen.{Puts}

-- what comes next goes on where this ended
pub then : {before middle after : Pen} {s t : List ℕ} → Puts before s middle → Puts middle t after → Puts before (s ++ t) after
then e f = record { put = emit.then e.put f.put; lent = f.lent ∙ e.lent }

-- and there is room for it
pub room_next : {before middle : Pen} {s t : List ℕ} → Puts before s middle → Room before.at (s ++ t) → Room middle.at t
room_next e r = emit.room_next e.put r

-- nothing is put
pub nothing : {pen : Pen} → Puts pen [] pen
nothing = record { put = emit.nothing _ _; lent = refl }

-- how bytes are put, step by step
pub ruleset pen_steps = (then, room_next, emit.room-first, nothing)

-- two digits, and the last two of more
pub decimal-two : (n : ℕ) → 10 ≤ n → n / 10 < 10 → decimal n ≡ digit (n / 10) ∷ digit (n % 10) ∷ []
decimal-two n h l = decimal-more n h ∙ rw (decimal-one (n / 10) l)

pub decimal-last : (n : ℕ) → 10 ≤ n → 10 ≤ n / 10 → decimal n ≡ decimal (n / 10 / 10) ++ (digit (n / 10 % 10) ∷ digit (n % 10) ∷ [])
decimal-last n h l =
    decimal-more n h ∙ rw (decimal-more (n / 10) l) (append_assoc (decimal (n / 10 / 10)) (digit (n / 10 % 10) ∷ []) (digit (n % 10) ∷ []))

-- how digits are put
pub ruleset digits_steps = (pen_steps, decimal-one, decimal-two, decimal-last)

-- how a signing is put
pub ruleset sheet_steps = (pen_steps, sheet-parts, few-rules, few-targets, some-target, tail-whole)
