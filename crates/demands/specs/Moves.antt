-- 'One move' row by row: each answer and the condition under which it is given; and how a run of moves ends.
use Rattle.std.specs.Prelude.{◌≡◌, List, ◌∷◌, ℕ, suc, ◌+◌, ◌≤◌, ◌<◌, length, drop, Some, None, Err}
use Rattle.tables.specs.Grammar.{Grammar}
use Rattle.machine.specs.declared.Stop.{Stop}
use Rattle.machine.specs.declared.Stop.TheVariants.{Token, Syntax, Underflow, NoGoto, Stack, Output, Moves, BadCell}
use Rattle.reads.specs.Reads.{Act, shift, reduce, accept, blank, malformed, goes, nowhere, broken, Reads}
use Rattle.machine.specs.Machine.{Job, Config, Result, Step, on, halt, refused, after_shift, after_reduce, after_accept, current, move, start}
use Rattle.machine.specs.Steps.{steps}

module _ (g : Grammar) (m : Reads) (j : Job) (c : Config) where
  -- the current token is a, and x is read there at the state on top
  abbrev pub Reading : ℕ → Act → Type 0
  Reading a x = (current g.T j.tokens c.place ≡ Some a) × (m.act c.state a ≡ x)

  -- how many states are on the stack
  abbrev pub depth : ℕ
  depth = suc (length c.below)

  -- under the right side of r stands p over ps
  abbrev pub Uncovers : ℕ → ℕ → List ℕ → Type 0
  Uncovers r p ps = drop (length (g.right r)) (c.state ∷ c.below) ≡ p ∷ ps

  -- the run ends here
  abbrev pub stop : Stop → Step
  stop e = halt (refused (Err e) c)

  -- a move, the limit not being reached
  pub data SaysMove : Step → Type 0 where
    token : current g.T j.tokens c.place ≡ None → SaysMove (stop (Token c.place))
    bad-cell : (a : ℕ) → Reading a malformed → SaysMove (stop (BadCell c.state))
    syntax : (a : ℕ) → Reading a blank → SaysMove (stop (Syntax c.place))
    shift-full : (a t : ℕ) → Reading a (shift t) → j.stack ≤ depth → SaysMove (stop (Stack c.place))
    shifts : (a t : ℕ) → Reading a (shift t) → depth < j.stack → SaysMove (on (after_shift c t))
    output-accept : (a : ℕ) → Reading a accept → j.list ≤ length c.made → SaysMove (stop (Output c.place))
    accepts : (a : ℕ) → Reading a accept → length c.made < j.list → SaysMove (halt (after_accept c))
    output : (a r : ℕ) → Reading a (reduce r) → j.list ≤ length c.made → SaysMove (stop (Output c.place))
    underflow : (a r : ℕ) → Reading a (reduce r) → length c.made < j.list → depth < length (g.right r) + 1 → SaysMove (stop (Underflow c.place r))
    bad-goto : (a r p : ℕ) (ps : List ℕ) → Reading a (reduce r) → length c.made < j.list → Uncovers r p ps → m.go p (g.left r) ≡ broken
        → SaysMove (stop (BadCell p))
    no-goto : (a r p : ℕ) (ps : List ℕ) → Reading a (reduce r) → length c.made < j.list → Uncovers r p ps → m.go p (g.left r) ≡ nowhere
        → SaysMove (stop (NoGoto c.place r))
    goto-full : (a r p t : ℕ) (ps : List ℕ) → Reading a (reduce r) → length c.made < j.list → Uncovers r p ps → m.go p (g.left r) ≡ goes t
        → j.stack ≤ length (p ∷ ps) → SaysMove (stop (Stack c.place))
    reduces : (a r p t : ℕ) (ps : List ℕ) → Reading a (reduce r) → length c.made < j.list → Uncovers r p ps → m.go p (g.left r) ≡ goes t
        → length (p ∷ ps) < j.stack → SaysMove (on (after_reduce c r p ps t))

-- a run: STACK at 0 before any move where there is no stack, else what the first move says that ends it, or MOVES where as many are made as the limit allows
pub data RunEnds (g : Grammar) (m : Reads) (j : Job) (limit : ℕ) : Result → Type 0 where
  no_stack : j.stack ≡ 0 → RunEnds g m j limit (refused (Err (Stack 0)) start)
  halted : {r : Result} → 0 < j.stack → (k : ℕ) (c : Config) → k < limit → steps g m j k start ≡ on c → move g m j c ≡ halt r → RunEnds g m j limit r
  limited : 0 < j.stack → (c : Config) → steps g m j limit start ≡ on c → RunEnds g m j limit (refused (Err (Moves c.place)) c)
