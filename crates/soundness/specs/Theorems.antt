-- What the table check promises. Each theorem is proved by one application of a law; Path, Derivation and Verdict have the definitions. Assumes nothing.
use Rattle.std.specs.Prelude.{◌≡◌, ◌≢◌, ◌↔◌, true, List, [], ◌∷◌, reverse, ℕ, ℤ, get_or, take, Ok}
use Rattle.tables.specs.declared.Sizes.{Sizes}
use Rattle.tables.specs.Said.{OK, UNSOUND}
use Rattle.tables.specs.Grammar.{Grammar, grammar}
use Rattle.tables.specs.Judgement.{judgement}
use Rattle.reads.specs.Reads.{Reads}
use Rattle.machine.specs.Reads.{plain_reads, unsigned_reads}
use Rattle.machine.specs.Machine.{Job, parse}
use Rattle.machine.specs.Outcome.{leaves, job_fits, job, plain_parse}
use Rattle.soundness.specs.Path.{PathTo}
use Rattle.soundness.specs.Derivation.{Terminals, Rightmost}
use Rattle.soundness.specs.Verdict.{Reduces, Handle, Sound, Verdict, sound, unsound, Unsound, IsVerdict}
use Rattle.soundness.specs.Outcome.{checked}
use Rattle.soundness.specs.Laws.Verdict.{verdict-unique}
use Rattle.soundness.specs.Laws.Outcome.{checked_refused, checked-exact, broken-said}
use Rattle.soundness.specs.Laws.Fills.{plain-fills}
use Rattle.soundness.specs.Laws.Keeps.{parse-keeps}
use Rattle.soundness.specs.Laws.Demand.{passed-never, passed-derives, passed-keeps, passed-keeps-plain}

-- At most one verdict is right, for any grammar, unsigned table and filled table.
pub one-verdict : (g : Grammar) (u v : Reads) (x y : Verdict) → IsVerdict g u v x → IsVerdict g u v y → x ≡ y
one-verdict = verdict-unique

module _ (z : Sizes) (states : ℕ) (left lens rights : List ℕ) (table : List ℤ) (srule sgoto : List ℕ) where
  -- A refusal of 1 to 4 is said back as the judgement has it.
  pub refused : (judgement z states left lens rights table srule sgoto).number ≢ 0
      → checked z states left lens rights table srule sgoto ≡ judgement z states left lens rights table srule sgoto
  refused = checked_refused z states left lens rights table srule sgoto

  -- EXACT: OK is said exactly where nothing is refused and every path keeps the conditions.
  pub exact-ok : (checked z states left lens rights table srule sgoto ≡ OK [])
      ↔ ((judgement z states left lens rights table srule sgoto ≡ OK []) × Sound (grammar z left lens rights) (unsigned_reads z table) (plain_reads z table srule sgoto))
  exact-ok = checked-exact z states left lens rights table srule sgoto sound

  -- EXACT: UNSOUND with s and r is said exactly where nothing is refused and s, then r, are the least that fail, with a path on which they do.
  pub exact-unsound : (s r : ℕ) → (checked z states left lens rights table srule sgoto ≡ UNSOUND s r)
      ↔ ((judgement z states left lens rights table srule sgoto ≡ OK []) × Unsound (grammar z left lens rights) (unsigned_reads z table) (plain_reads z table srule sgoto) s r)
  exact-unsound s r = checked-exact z states left lens rights table srule sgoto (unsound s r)

  -- Where nothing is refused and some path breaks the conditions, UNSOUND is said.
  pub says-unsound : judgement z states left lens rights table srule sgoto ≡ OK []
      → (s r : ℕ) (ss xs : List ℕ) → PathTo (grammar z left lens rights) (unsigned_reads z table) s ss xs
      → Reduces (grammar z left lens rights) (plain_reads z table srule sgoto) s r
      → (Handle (grammar z left lens rights) (unsigned_reads z table) r s ss xs → ⊥)
      → (p : ℕ) × (q : ℕ) × (checked z states left lens rights table srule sgoto ≡ UNSOUND p q)
  says-unsound = broken-said z states left lens rights table srule sgoto

  module _ (passed : checked z states left lens rights table srule sgoto ≡ OK []) (tokens : List ℕ) (limit : ℕ) (stack list : List ℕ) where
    -- SOUND: the plain machine never says UNDERFLOW.
    pub never-underflow : (plain_parse z states left lens rights table srule sgoto tokens limit stack list).said.number ≢ 9
    never-underflow = (passed-never z states left lens rights table srule sgoto passed tokens limit stack list).0

    -- SOUND: it never says NOGOTO.
    pub never-nogoto : (plain_parse z states left lens rights table srule sgoto tokens limit stack list).said.number ≢ 10
    never-nogoto = (passed-never z states left lens rights table srule sgoto passed tokens limit stack list).1

    -- DERIVES: where it says OK with n reductions, the tokens are terminals, and the first n of the list, read backwards, are a rightmost derivation of exactly these tokens from the start symbol.
    pub derives : (n moves : ℕ) → (plain_parse z states left lens rights table srule sgoto tokens limit stack list).said ≡ OK (n ∷ moves ∷ [])
        → Terminals z.terminals tokens
        × Rightmost (grammar z left lens rights) (z.terminals ∷ []) (reverse (take n (plain_parse z states left lens rights table srule sgoto tokens limit stack list).list)) tokens
    unfolding grammar
    derives = passed-derives z states left lens rights table srule sgoto passed tokens limit stack list

    -- KEEPS: what the unsigned table accepts is accepted with the same reductions and count of moves, in the same room and limit.
    pub keeps : (n : ℕ) → job_fits tokens limit ≡ true → (parse (grammar z left lens rights) (unsigned_reads z table) (job tokens stack list) limit).answer ≡ Ok n
        → plain_parse z states left lens rights table srule sgoto tokens limit stack list
        ≡ leaves (parse (grammar z left lens rights) (unsigned_reads z table) (job tokens stack list) limit) stack list
    keeps = passed-keeps z states left lens rights table srule sgoto passed tokens limit stack list

    -- KEEPS, in the product's own terms: what the plain parse accepts with nothing signed, it says and leaves just so with the signing.
    pub keeps-plain : (rule₀ goto₀ : List ℕ) → ((s : ℕ) → get_or rule₀ s 0 ≡ 0) → ((i : ℕ) → get_or goto₀ i 0 ≡ 0) → (n moves : ℕ)
        → (plain_parse z states left lens rights table rule₀ goto₀ tokens limit stack list).said ≡ OK (n ∷ moves ∷ [])
        → plain_parse z states left lens rights table srule sgoto tokens limit stack list ≡ plain_parse z states left lens rights table rule₀ goto₀ tokens limit stack list
    keeps-plain = passed-keeps-plain z states left lens rights table srule sgoto passed tokens limit stack list

-- KEEPS, of the machine by itself: for any job and limit, and with no check at all, a signing takes nothing away that the unsigned table accepts.
pub keeps-any : (g : Grammar) (z : Sizes) (table : List ℤ) (srule sgoto : List ℕ) (j : Job) (limit n : ℕ) → (parse g (unsigned_reads z table) j limit).answer ≡ Ok n
    → parse g (plain_reads z table srule sgoto) j limit ≡ parse g (unsigned_reads z table) j limit
keeps-any g z table srule sgoto j limit n = parse-keeps g (plain-fills z table srule sgoto) j limit
