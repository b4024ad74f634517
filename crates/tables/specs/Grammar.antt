-- A grammar, and GRAMMAR: the lowest bad rule.
use Rattle.std.specs.Prelude.{ℕ, ◌-◌, Bool, true, false, not, ◌&&◌, List, ltb, eqb, length, get_or, take, drop, Option}
use Rattle.tables.specs.declared.Sizes.{Sizes}
use Rattle.tables.specs.Lists.{all, sum, lowest}

-- T terminals, M symbols, rules 1..G; the left side and the right side of each rule
pub record Grammar : Type 0 where
  pub T : ℕ
  pub M : ℕ
  pub G : ℕ
  pub left : ℕ → ℕ
  pub right : ℕ → List ℕ

-- the right side of rule i + 1, where all right sides stand one after the other
unfoldable pub right_at : List ℕ → List ℕ → ℕ → List ℕ
right_at lens rights i = take (get_or lens i 0) (drop (sum (take i lens)) rights)

unfoldable pub grammar : Sizes → List ℕ → List ℕ → List ℕ → Grammar
grammar z left lens rights =
    record {
      T = z.terminals;
      M = z.symbols;
      G = z.rules;
      left = λ r. get_or left (r - 1) 0;
      right = λ r. right_at lens rights (r - 1);
    }

-- a nonterminal other than T: T+1..M-1
unfoldable pub inner : Sizes → ℕ → Bool
inner z x = ltb z.terminals x && ltb x z.symbols

-- a symbol that may stand on a right side: 1..M-1, and not T
unfoldable pub on_right : Sizes → ℕ → Bool
on_right z x = ltb 0 x && (ltb x z.symbols && not (eqb x z.terminals))

-- rule 1 has left side T and one nonterminal other than T on the right; every other left side is T+1..M-1
unfoldable pub good_sides : Sizes → Bool → ℕ → List ℕ → Bool
good_sides z true left right = eqb left z.terminals && (eqb (length right) 1 && inner z (get_or right 0 0))
good_sides z false left right = inner z left && all (on_right z) right

-- rule i + 1 is as it must be
unfoldable pub good_rule : Sizes → List ℕ → List ℕ → List ℕ → ℕ → Bool
good_rule z left lens rights i = good_sides z (eqb i 0) (get_or left i 0) (right_at lens rights i)

-- the lowest bad rule, counted from 0
unfoldable pub lowest_rule : Sizes → List ℕ → List ℕ → List ℕ → Option ℕ
lowest_rule z left lens rights = lowest (good_rule z left lens rights) z.rules
