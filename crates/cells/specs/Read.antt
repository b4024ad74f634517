-- 'Cells and how they are read': each state stands at a cell x, with its attached cell x+1.
use Rattle.std.specs.Prelude.{ℕ, zero, suc, ◌+◌, ◌-◌, ◌*◌, Bool, true, false, not, cond, ◌&&◌, List, ltb, leb, eqb, ℤ, pos, negsuc, length, get_or, Option, Some, None}
use Rattle.reads.specs.declared.Way.{Way}
use Rattle.reads.specs.declared.Way.TheVariants.{Direct, Pointer}
use Rattle.reads.specs.declared.Read.{Read}
use Rattle.reads.specs.declared.Read.TheVariants.{Shift, Reduce, Accept, Blank}

-- an action is read for a terminal, a goto for a nonterminal
pub data Kind : Type 0 where
  action goto : Kind

-- the cells that are read: W of them, with G rules, and the cell of each nonterminal's default target
pub record Cells : Type 0 where
  pub G : ℕ
  pub W : ℕ
  pub base : ℕ → ℤ
  pub check : ℕ → ℤ
  pub target : ℕ → ℕ

-- the cell of A's default target in this edition: 2A
abbrev pub twice : ℕ → ℕ
twice A = 2 * A

-- Base and Check as lists; W is the length of Base
unfoldable pub cells_of : ℕ → (ℕ → ℕ) → List ℤ → List ℤ → Cells
cells_of rules target base check =
    record {
      G = rules;
      W = length base;
      base = λ t. get_or base t (pos 0);
      check = λ t. get_or check t (pos 0);
      target = target;
    }

abbrev pub is_pos : ℤ → Bool
is_pos (pos n) = true
is_pos (negsuc n) = false

abbrev pub is_number : ℤ → ℕ → Bool
is_number (pos n) a = eqb n a
is_number (negsuc n) a = false

-- symbol a is found at cell t: t is below W and Check[t] = a
unfoldable pub found : Cells → ℕ → ℕ → Bool
found C t a = ltb t C.W && is_number (C.check t) a

-- the state at cell y is well formed: it is not 0, its attached cell is inside, and its Base is not negative
unfoldable pub is_state : Cells → ℕ → Bool
is_state C y = not (eqb y 0) && (ltb (suc y) C.W && is_pos (C.base y))

-- a state that symbol a gives; a shift on 0 is malformed
unfoldable pub state_read : Cells → ℕ → Way → ℕ → Option Read
state_read C a w y = cond (not (eqb a 0) && is_state C y) (Some (Shift w)) None

-- rule r found on terminal a: rule 1 is accept, on the end mark alone
unfoldable pub rule_read : ℕ → ℕ → Option Read
rule_read a r = cond (eqb r 1) (cond (eqb a 0) (Some Accept) None) (Some (Reduce r))

-- by signing: a rule 2..G, where Check of the attached cell is negative; else blank
abbrev pub sign_read : ℕ → ℤ → Option Read
sign_read G (pos n) = Some Blank
sign_read G (negsuc n) = cond (leb 2 (suc n) && leb (suc n) G) (Some (Reduce (suc n))) None

-- what Base of the cell t says where a is found: a state here, a state through a pointer, or a rule, which is no answer where a state was asked for
abbrev pub entry_read : Kind → Cells → ℕ → ℕ → ℤ → Option Read
entry_read κ C a t (pos n) = state_read C a (Direct t) t
entry_read action C a t (negsuc n) = cond (ltb C.G (suc n)) (state_read C a (Pointer (suc n - C.G)) (suc n - C.G)) (rule_read a (suc n))
entry_read goto C a t (negsuc n) = cond (ltb C.G (suc n)) (state_read C a (Pointer (suc n - C.G)) (suc n - C.G)) None

-- not found: the signed rule of the state, or the signed target of the nonterminal, else blank
abbrev pub default_read : Kind → Cells → ℕ → ℕ → Option Read
default_read action C x a = sign_read C.G (C.check (suc x))
default_read goto C x a = cond (found C (C.target a) a) (state_read C a (Direct (C.target a)) (C.target a)) (Some Blank)

-- from base b, a is looked for at b + 2a
unfoldable pub read_at : Kind → Cells → ℕ → ℕ → ℕ → Option Read
read_at κ C x a t = cond (found C t a) (entry_read κ C a t (C.base t)) (default_read κ C x a)

-- the action base is at x and not negative; the goto base is at x+1, and 0 or less means no written gotos
abbrev pub read_from : Kind → Cells → ℕ → ℕ → ℤ → Option Read
read_from action C x a (pos b) = read_at action C x a (b + 2 * a)
read_from action C x a (negsuc b) = None
read_from goto C x a (pos zero) = default_read goto C x a
read_from goto C x a (pos (suc b)) = read_at goto C x a (suc b + 2 * a)
read_from goto C x a (negsuc b) = default_read goto C x a

abbrev pub base_for : Kind → Cells → ℕ → ℤ
base_for action C x = C.base x
base_for goto C x = C.base (suc x)

-- the read of symbol a at the state at cell x; malformed where x+1 is not below W or Base[x] is negative
unfoldable pub read_cell : Kind → Cells → ℕ → ℕ → Option Read
read_cell κ C x a = cond (ltb (suc x) C.W && is_pos (C.base x)) (read_from κ C x a (base_for κ C x)) None
