-- What the unsigned table accepts, the filled one accepts by the same moves. Assumes nothing.
use Rattle.std.specs.Prelude.{◌≡◌, ◌≢◌, Bool, ltb, length, drop, Ok, Err, Option, Some, None, refl, true, false, List, [], ◌∷◌, ℕ, zero, suc}
use Rattle.std.proofs.Common.{arith}
use Rattle.tables.specs.Grammar.{Grammar}
use Rattle.machine.specs.declared.Stop.TheVariants.{Syntax, NoGoto}
use Rattle.reads.specs.Reads.{Act, shift, reduce, accept, blank, malformed, Go, Reads}
use Rattle.machine.specs.Machine.{Job, Config, Result, Step, on, halt, refused, current, written}
use Rattle.machine.specs.Machine.{gone, popped, acted, looked, move, then, run, start, begun, parse}
use Rattle.soundness.specs.Laws.Fills.{FillsAct, act-stays, act-signed, FillsGo, go-stays, go-signed, Fills}

-- the second step is the first, or the first refuses
data Follows : Step → Step → Type 0 where
  same : {s : Step} → Follows s s
  refuses : {r : Result} {s : Step} → ((n : ℕ) → r.answer ≢ Ok n) → Follows (halt r) s

syntax-refuses : (i n : ℕ) → Err (Syntax i) ≢ Ok n
syntax-refuses i n e = let z : ◌≡◌ {A = ℕ} 0 1 = cc in omega arith

nogoto-refuses : (i r n : ℕ) → Err (NoGoto i r) ≢ Ok n
nogoto-refuses i r n e = let z : ◌≡◌ {A = ℕ} 0 1 = cc in omega arith

written-follows : (b : Bool) (c : Config) {s t : Step} → Follows s t → Follows (written b c s) (written b c t)
unfolding written
written-follows true c h = h
written-follows false c h = same

gone-follows : (j : Job) (c : Config) (r p : ℕ) (ps : List ℕ) {x y : Go} → FillsGo x y → Follows (gone j c r p ps x) (gone j c r p ps y)
unfolding gone refused
gone-follows j c r p ps go-stays = same
gone-follows j c r p ps go-signed = refuses (nogoto-refuses c.place r)

module _ (g : Grammar) {u v : Reads} (fills : Fills u v) (j : Job) where
  popped-follows : (c : Config) (r : ℕ) (ss : List ℕ) → Follows (popped g u j c r ss) (popped g v j c r ss)
  unfolding popped
  popped-follows c r [] = same
  popped-follows c r (p ∷ ps) = gone-follows j c r p ps (fills.gos p (g.left r))

  acted-follows : (c : Config) {x y : Act} → FillsAct x y → Follows (acted g u j c x) (acted g v j c y)
  unfolding acted refused
  acted-follows c (act-stays {x = shift t}) = same
  acted-follows c (act-stays {x = reduce r}) =
      written-follows (ltb (length c.made) j.list) c (popped-follows c r (drop (length (g.right r)) (c.state ∷ c.below)))
  acted-follows c (act-stays {x = accept}) = same
  acted-follows c (act-stays {x = blank}) = same
  acted-follows c (act-stays {x = malformed}) = same
  acted-follows c act-signed = refuses (syntax-refuses c.place)

  looked-follows : (c : Config) (x : Option ℕ) → Follows (looked g u j c x) (looked g v j c x)
  unfolding looked
  looked-follows c None = same
  looked-follows c (Some a) = acted-follows c (fills.acts c.state a)

  then-follows : (K L : Config → Result) {n : ℕ} {s t : Step} → Follows s t → ((d : Config) → (K d).answer ≡ Ok n → L d ≡ K d)
      → (then K s).answer ≡ Ok n → then L t ≡ then K s
  unfolding then
  then-follows K L (same {s = on d}) h e = h d e
  then-follows K L (same {s = halt r}) h e = refl
  then-follows K L {n} (refuses d) h e = absurd (d n e)

  run-keeps : {n : ℕ} (k : ℕ) (c : Config) → (run g u j k c).answer ≡ Ok n → run g v j k c ≡ run g u j k c
  unfolding run move
  run-keeps zero c e = refl
  run-keeps (suc k) c e =
      then-follows (run g u j k) (run g v j k) (looked-follows c (current g.T j.tokens c.place)) (run-keeps k) e

  begun-keeps : {n : ℕ} (limit : ℕ) (b : Bool) → (begun g u j limit b).answer ≡ Ok n → begun g v j limit b ≡ begun g u j limit b
  unfolding begun
  begun-keeps limit true e = run-keeps limit start e
  begun-keeps limit false e = refl

  pub parse-keeps : {n : ℕ} (limit : ℕ) → (parse g u j limit).answer ≡ Ok n → parse g v j limit ≡ parse g u j limit
  unfolding parse
  parse-keeps limit e = begun-keeps limit (ltb 0 j.stack) e
