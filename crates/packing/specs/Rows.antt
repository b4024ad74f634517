-- Written rows: an action row without blanks and without entries equal to the state's signed rule; a goto row without blanks and without entries equal to the column's signed state.
use Rattle.std.specs.Prelude.{ℕ, zero, suc, Bool, true, false, cond, ◌&&◌, ltb, eqb}
use Rattle.cells.specs.Read.{Kind, action, goto}
use Rattle.packing.specs.Job.{Act, blank, shift, rule, Job, eq_act, is_blank}
-- a row is placed, it takes an earlier state's base, or nothing is done: the code's own type
pub use Rattle.packing.specs.declared.Plan.{Plan}
pub use Rattle.packing.specs.declared.Plan.TheVariants.{Search as search, Share as share, Skip as skip}

-- the entry that a signature stands for: 0 signs nothing
abbrev pub rule_sign : ℕ → Act
rule_sign zero = blank
rule_sign (suc r) = rule (suc r)

abbrev pub state_sign : ℕ → Act
state_sign zero = blank
state_sign (suc t) = shift (suc t)

-- the signature of the state, for an action row; of the column, for a goto row
abbrev pub sign : Job → Kind → ℕ → ℕ → Act
sign J action s a = rule_sign (J.ssig s)
sign J goto s a = state_sign (J.gsig a)

-- a is a terminal
abbrev pub kind_of : Job → ℕ → Bool
kind_of J a = ltb a J.terms

-- an action row has the terminal columns, a goto row the others
abbrev pub in_kind : Kind → Bool → Act → Act
in_kind action true e = e
in_kind action false e = blank
in_kind goto true e = blank
in_kind goto false e = e

-- the entry e, blank where it is what is signed
abbrev pub unless : Act → Act → Act
unless e signed = cond (eq_act e signed) blank e

-- the written row of state s, column by column; blank is 'not written'
unfoldable pub row : Job → Kind → ℕ → ℕ → Act
row J κ s a = in_kind κ (kind_of J a) (unless (J.entry s a) (sign J κ s a))

-- ---- rows that are the same

-- equal in the columns below n
abbrev pub same_upto : (ℕ → Act) → (ℕ → Act) → ℕ → Bool
same_upto f g zero = true
same_upto f g (suc n) = same_upto f g n && eq_act (f n) (g n)

-- j and s have the same written action row
unfoldable pub same_row : Job → ℕ → ℕ → Bool
same_row J j s = same_upto (row J action j) (row J action s) J.terms

-- the first of j, j + 1, .. (at most n more) whose row is that of s; the Bool is the test at j
abbrev pub rep_from : Job → ℕ → ℕ → ℕ → Bool → ℕ
rep_from J s zero j true = j
rep_from J s zero j false = j
rep_from J s (suc n) j true = j
rep_from J s (suc n) j false = rep_from J s n (suc j) (same_row J (suc j) s)

-- the state whose row s shares: for an action row the first with that row, s itself if there is none before it; a goto row is never shared
unfoldable pub rep : Job → Kind → ℕ → ℕ
rep J action s = rep_from J s s 0 (same_row J 0 s)
rep J goto s = s

-- ---- what is done with a row

abbrev pub empty_upto : (ℕ → Act) → ℕ → Bool
empty_upto f zero = true
empty_upto f (suc n) = empty_upto f n && is_blank (f n)

-- an action row is shared if it can be; an empty goto row has goto base 0
unfoldable pub plan : Job → Kind → ℕ → Plan
plan J action s = cond (eqb (rep J action s) s) search (share (rep J action s))
plan J goto s = cond (empty_upto (row J goto s) J.syms) skip search
