-- A signing, and SIGN: the lowest bad state, else nonterminal.
use Rattle.std.specs.Prelude.{ℕ, ◌-◌, Bool, not, ◌&&◌, ◌||◌, List, leb, ltb, eqb, length, get_or, take, Option}
use Rattle.tables.specs.declared.Sizes.{Sizes}
use Rattle.tables.specs.Lists.{among, lowest}

-- 0 or a rule for each state, 0 or a state for each nonterminal
pub record Signing : Type 0 where
  pub rule : ℕ → ℕ
  pub target : ℕ → ℕ

-- the nonterminal x has its element at x - T
unfoldable pub signing : Sizes → List ℕ → List ℕ → Signing
signing z srule sgoto = record { rule = λ s. get_or srule s 0; target = λ x. get_or sgoto (x - z.terminals) 0 }

-- 0 or a rule 2..G
unfoldable pub good_signature : Sizes → ℕ → Bool
good_signature z r = eqb r 0 || (leb 2 r && leb r z.rules)

-- 0 or a state 1..L-1; T has 0, and no earlier nonterminal signs the same state
unfoldable pub good_target : ℕ → List ℕ → ℕ → Bool
good_target states sgoto i =
    eqb (get_or sgoto i 0) 0
    || (not (eqb i 0) && (ltb (get_or sgoto i 0) states && not (among (get_or sgoto i 0) (take i sgoto))))

-- the lowest bad state
unfoldable pub lowest_state : Sizes → List ℕ → Option ℕ
lowest_state z srule = lowest (λ s. good_signature z (get_or srule s 0)) (length srule)

-- the lowest bad nonterminal, counted from T
unfoldable pub lowest_target : ℕ → List ℕ → Option ℕ
lowest_target states sgoto = lowest (good_target states sgoto) (length sgoto)
