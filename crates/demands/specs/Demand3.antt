-- Demand 3: a table that passes the check never fails under the parser, and what the parser accepts is derived; the check is exact.
-- To be believed: demand 1 with what it names; soundness/specs Derivation; tables/specs Filled.
use Rattle.std.specs.Prelude.{◌≡◌, ◌≢◌, ◌↔◌, true, List, [], ◌∷◌, reverse, ℕ, ℤ, get_or, take, Ok}
use Rattle.tables.specs.declared.Sizes.{Sizes}
use Rattle.tables.specs.Said.{OK, UNSOUND}
use Rattle.tables.specs.Grammar.{grammar}
use Rattle.tables.specs.Judgement.{judgement}
use Rattle.packing.specs.Bench.{Bench}
use Rattle.packing.specs.Packing.{packing_result, packed}
use Rattle.machine.specs.Reads.{plain_reads, unsigned_reads}
use Rattle.machine.specs.Machine.{parse}
use Rattle.machine.specs.Outcome.{leaves, job_fits, job, plain_parse}
use Rattle.parser.specs.Outcome.{packed_parse}
use Rattle.soundness.specs.Path.{PathTo}
use Rattle.soundness.specs.Derivation.{Terminals, Rightmost}
use Rattle.soundness.specs.Verdict.{Reduces, Handle, Sound, Unsound}
use Rattle.soundness.specs.Outcome.{checked}
use Rattle.soundness.specs.Theorems as soundness
use Rattle.demands.specs.Demand2.{parses-alike}

module _ (z : Sizes) (states : ℕ) (left lens rights : List ℕ) (table : List ℤ) (srule sgoto : List ℕ) where
  -- The check says OK exactly where nothing is refused and every path keeps the conditions.
  pub ok-exactly : (checked z states left lens rights table srule sgoto ≡ OK [])
      ↔ ((judgement z states left lens rights table srule sgoto ≡ OK []) × Sound (grammar z left lens rights) (unsigned_reads z table) (plain_reads z table srule sgoto))
  ok-exactly = soundness.exact-ok z states left lens rights table srule sgoto

  -- It says UNSOUND with s and r exactly where nothing is refused and s, then r, are the least that fail, with a path on which they do.
  pub unsound-exactly : (s r : ℕ) → (checked z states left lens rights table srule sgoto ≡ UNSOUND s r)
      ↔ ((judgement z states left lens rights table srule sgoto ≡ OK []) × Unsound (grammar z left lens rights) (unsigned_reads z table) (plain_reads z table srule sgoto) s r)
  unsound-exactly = soundness.exact-unsound z states left lens rights table srule sgoto

  -- Where nothing is refused and some path breaks the conditions, it says UNSOUND.
  pub says-unsound : judgement z states left lens rights table srule sgoto ≡ OK []
      → (s r : ℕ) (ss xs : List ℕ) → PathTo (grammar z left lens rights) (unsigned_reads z table) s ss xs
      → Reduces (grammar z left lens rights) (plain_reads z table srule sgoto) s r
      → (Handle (grammar z left lens rights) (unsigned_reads z table) r s ss xs → ⊥)
      → (p : ℕ) × (q : ℕ) × (checked z states left lens rights table srule sgoto ≡ UNSOUND p q)
  says-unsound = soundness.says-unsound z states left lens rights table srule sgoto

  -- Where the check says OK and `pack` says OK, for all tokens, limit, stack and list:
  module _ (passed : checked z states left lens rights table srule sgoto ≡ OK [])
      (B C : Bench) (n : ℕ) (said : packed z states left lens rights table srule sgoto B ≡ packing_result (OK (n ∷ [])) C)
      (tokens : List ℕ) (limit : ℕ) (stack list : List ℕ) where
    -- The parser never says UNDERFLOW.
    pub never-underflow : (packed_parse z left lens rights C.bases C.checks tokens limit stack list).said.number ≢ 9
    never-underflow =
        rw (parses-alike z states left lens rights table srule sgoto B C n said tokens limit stack list)
        (soundness.never-underflow z states left lens rights table srule sgoto passed tokens limit stack list)

    -- It never says NOGOTO.
    pub never-nogoto : (packed_parse z left lens rights C.bases C.checks tokens limit stack list).said.number ≢ 10
    never-nogoto =
        rw (parses-alike z states left lens rights table srule sgoto B C n said tokens limit stack list)
        (soundness.never-nogoto z states left lens rights table srule sgoto passed tokens limit stack list)

    -- Where it says OK with k reductions, the tokens are terminals, and the first k of the list, read backwards, are a rightmost derivation of exactly these tokens from the start symbol.
    pub derives : (k moves : ℕ) → (packed_parse z left lens rights C.bases C.checks tokens limit stack list).said ≡ OK (k ∷ moves ∷ [])
        → Terminals z.terminals tokens
        × Rightmost (grammar z left lens rights) (z.terminals ∷ []) (reverse (take k (packed_parse z left lens rights C.bases C.checks tokens limit stack list).list)) tokens
    derives =
        rw (parses-alike z states left lens rights table srule sgoto B C n said tokens limit stack list)
        (soundness.derives z states left lens rights table srule sgoto passed tokens limit stack list)

    -- What the unsigned table accepts, tokens and limit being in their bounds, is accepted with the same reductions and count of moves, in the same room and limit.
    pub keeps : (k : ℕ) → job_fits tokens limit ≡ true → (parse (grammar z left lens rights) (unsigned_reads z table) (job tokens stack list) limit).answer ≡ Ok k
        → packed_parse z left lens rights C.bases C.checks tokens limit stack list
        ≡ leaves (parse (grammar z left lens rights) (unsigned_reads z table) (job tokens stack list) limit) stack list
    keeps =
        rw (parses-alike z states left lens rights table srule sgoto B C n said tokens limit stack list)
        (soundness.keeps z states left lens rights table srule sgoto passed tokens limit stack list)

    -- In the product's own terms: what its plain parse accepts with nothing signed, the parser says and leaves just so with the cells of the signed table.
    pub keeps-plain : (rule₀ goto₀ : List ℕ) → ((s : ℕ) → get_or rule₀ s 0 ≡ 0) → ((i : ℕ) → get_or goto₀ i 0 ≡ 0) → (k moves : ℕ)
        → (plain_parse z states left lens rights table rule₀ goto₀ tokens limit stack list).said ≡ OK (k ∷ moves ∷ [])
        → packed_parse z left lens rights C.bases C.checks tokens limit stack list ≡ plain_parse z states left lens rights table rule₀ goto₀ tokens limit stack list
    keeps-plain =
        rw (parses-alike z states left lens rights table srule sgoto B C n said tokens limit stack list)
        (soundness.keeps-plain z states left lens rights table srule sgoto passed tokens limit stack list)
