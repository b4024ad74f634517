-- What is proved of the house notation. Each theorem is proved by one application; House has the arrays, Parse what they are asked, Notation what is allowed. Assumes nothing.
use Rattle.std.specs.Prelude.{◌≡◌, ◌≢◌, true, false, List, [], ◌∷◌, ◌++◌, reverse, ℕ, take, replicate, Ok}
use Rattle.tables.specs.Said.{OK, SYNTAX}
use Rattle.tables.specs.Lists.{among}
use Rattle.tables.specs.Laws.Tests.{clash}
use Rattle.machine.specs.Machine.{parse}
use Rattle.machine.specs.Outcome.{leaves, job_fits, job}
use Rattle.machine.specs.Reads.{plain_reads, unsigned_reads}
use Rattle.soundness.specs.Derivation.{Rightmost}
use Rattle.soundness.specs.Verdict.{Sound}
use Rattle.soundness.specs.Theorems as soundness
use Rattle.soundness.specs.Laws.Accepted.{accepted-yields}
use Rattle.house.specs.Symbols.{VARIANT, CAPTURE, start}
use Rattle.house.specs.House.{house_sizes, house_states, house_left, house_lens, house_rights, house_table}
use Rattle.house.specs.Parse.{no_rules, no_targets, house_grammar, house_judgement, house_checked, house_parse}
use Rattle.house.specs.Notation.{Book, Ends}
use Rattle.house.specs.Worked.{whole_sheet, lacking_sheet}
use Rattle.house.specs.Laws.Computed.{house_checked_lem, house-judged}
use Rattle.house.specs.Laws.Worked.{worked}
use Rattle.house.specs.Laws.Meaning.{yields-book}
use Rattle.house.specs.Laws.Stretch.{captured}

-- The check passes the notation unsigned: computed once, over the whole constant.
pub passes : house_checked ≡ OK []
passes = house_checked_lem

-- So nothing of it is refused under 1 to 4,
pub judged : house_judgement ≡ OK []
judged = house-judged

-- and every path of its edges keeps the conditions of the check, at each entry that reduces.
pub sound : Sound house_grammar (unsigned_reads house_sizes house_table) (plain_reads house_sizes house_table no_rules no_targets)
sound = ((soundness.exact-ok house_sizes house_states house_left house_lens house_rights house_table no_rules no_targets).0 house_checked_lem).1

module _ (tokens : List ℕ) (limit : ℕ) (stack list : List ℕ) where
  -- The plain machine over it never says UNDERFLOW,
  pub never-underflow : (house_parse tokens limit stack list).said.number ≢ 9
  never-underflow = soundness.never-underflow house_sizes house_states house_left house_lens house_rights house_table no_rules no_targets house_checked_lem tokens limit stack list

  -- nor NOGOTO;
  pub never-nogoto : (house_parse tokens limit stack list).said.number ≢ 10
  never-nogoto = soundness.never-nogoto house_sizes house_states house_left house_lens house_rights house_table no_rules no_targets house_checked_lem tokens limit stack list

  -- and where it says OK, the reductions read backwards are a rightmost derivation of exactly these tokens.
  pub derives : (n moves : ℕ) → (house_parse tokens limit stack list).said ≡ OK (n ∷ moves ∷ [])
      → Rightmost house_grammar (start ∷ []) (reverse (take n (house_parse tokens limit stack list).list)) tokens
  derives n moves e = (soundness.derives house_sizes house_states house_left house_lens house_rights house_table no_rules no_targets house_checked_lem tokens limit stack list n moves e).1

  -- Nothing that the table accepts by itself is lost.
  pub keeps : (n : ℕ) → job_fits tokens limit ≡ true → (parse house_grammar (unsigned_reads house_sizes house_table) (job tokens stack list) limit).answer ≡ Ok n
      → house_parse tokens limit stack list ≡ leaves (parse house_grammar (unsigned_reads house_sizes house_table) (job tokens stack list) limit) stack list
  keeps = soundness.keeps house_sizes house_states house_left house_lens house_rights house_table no_rules no_targets house_checked_lem tokens limit stack list

  -- Whatever it accepts is a book,
  pub accepted-book : (house_parse tokens limit stack list).said.number ≡ 0 → Book tokens
  accepted-book e = yields-book (accepted-yields house_sizes house_states house_left house_lens house_rights house_table no_rules no_targets house_checked_lem tokens limit stack list e)

  module _ (before inside after : List ℕ) (cut : tokens ≡ before ++ ((VARIANT ∷ inside) ++ after)) (one : among VARIANT inside ≡ false) (ends : Ends after) where
    -- in which between each VARIANT and the next, or the end, there stands a CAPTURE.
    pub no-variant-without-capture : (house_parse tokens limit stack list).said.number ≡ 0 → among CAPTURE inside ≡ true
    no-variant-without-capture e = captured (accepted-book e) before inside after cut one ends

    -- So a sheet with one variant that lacks its CAPTURE is never accepted, wherever it stands.
    pub lacking-refused : among CAPTURE inside ≡ false → (house_parse tokens limit stack list).said.number ≢ 0
    lacking-refused none e = clash (no-variant-without-capture e) none

-- A book of two variants is accepted, with 21 reductions in 58 moves.
pub whole-accepted : (house_parse whole_sheet 58 (replicate 14 0) (replicate 21 0)).said ≡ OK (21 ∷ 58 ∷ [])
whole-accepted = worked.0

-- The same book without the first variant's CAPTURE stops where CAPTURE was to stand.
pub lacking-stopped : (house_parse lacking_sheet 58 (replicate 14 0) (replicate 21 0)).said ≡ SYNTAX 14
lacking-stopped = worked.1
