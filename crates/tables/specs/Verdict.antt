-- What may be said of grammar, table and signing under the numbers 0 to 4, and when.
use Rattle.std.specs.Prelude.{◌≡◌, Bool, true, false, List, [], ℕ, ◌+◌, ◌<◌, ℤ, length, get_or}
use Rattle.tables.specs.declared.Sizes.{Sizes}
use Rattle.tables.specs.Said.{Said, OK, SIZE, GRAMMAR, ENTRY, SIGN-STATE, SIGN-NONTERMINAL}
use Rattle.tables.specs.Size.{all_fit}
use Rattle.tables.specs.Grammar.{good_rule}
use Rattle.tables.specs.Entry.{good_at}
use Rattle.tables.specs.Signing.{good_signature, good_target}

-- every number below i is good
abbrev pub Passed : (ℕ → Bool) → ℕ → Type 0
Passed good i = (k : ℕ) → k < i → good k ≡ true

-- i is bad, and every number below it is good
abbrev pub Least : (ℕ → Bool) → ℕ → ℕ → Type 0
Least good n i = (i < n) × Passed good i × (good i ≡ false)

module _ (z : Sizes) (states : ℕ) (left lens rights : List ℕ) (table : List ℤ) (srule sgoto : List ℕ) where
  abbrev fits : Bool
  fits = all_fit z states left lens rights table srule sgoto

  abbrev rule_at : ℕ → Bool
  rule_at = good_rule z left lens rights

  abbrev entry_is : ℕ → Bool
  entry_is = good_at z states table

  abbrev state_at : ℕ → Bool
  state_at s = good_signature z (get_or srule s 0)

  abbrev target_at : ℕ → Bool
  target_at = good_target states sgoto

  -- what may be said, and when: each refusal names the lowest bad one, and comes only where no earlier refusal does
  pub data Verdict : Said → Type 0 where
    sizes : fits ≡ false → Verdict SIZE
    rule : (i : ℕ) → fits ≡ true → Least rule_at z.rules i → Verdict (GRAMMAR (i + 1))
    entry : (i : ℕ) → fits ≡ true → Passed rule_at z.rules → Least entry_is (length table) i → Verdict (ENTRY i)
    state : (s : ℕ) → fits ≡ true → Passed rule_at z.rules → Passed entry_is (length table) → Least state_at (length srule) s → Verdict (SIGN-STATE s)
    target : (i : ℕ) → fits ≡ true → Passed rule_at z.rules → Passed entry_is (length table) → Passed state_at (length srule) → Least target_at (length sgoto) i
        → Verdict (SIGN-NONTERMINAL (z.terminals + i))
    good : fits ≡ true → Passed rule_at z.rules → Passed entry_is (length table) → Passed state_at (length srule) → Passed target_at (length sgoto) → Verdict (OK [])
