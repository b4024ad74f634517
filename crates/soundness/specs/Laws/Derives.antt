-- Over a sound table the machine never says UNDERFLOW or NOGOTO, and what it accepts is derived. Assumes nothing.
use Rattle.std.specs.Prelude.{◌≡◌, Bool, ltb, drop, take, Ok, Err, Option, Some, None, refl, true, false, List, [], ◌∷◌, ◌++◌, reverse, ℕ, zero, suc, ◌≤◌, ◌<◌, length}
use Rattle.std.proofs.Math.Path.{subst₂}
use Rattle.std.proofs.Common.{ap, sym, ◌∙◌, subst, arith, take-suc, take_all, append-nil, length-append}
use Rattle.std.proofs.lemmas.List.{length-reverse}
use Rattle.tables.specs.Grammar.{Grammar}
use Rattle.machine.specs.Types.{Answer}
use Rattle.machine.specs.declared.Stop.TheVariants.{Token, Syntax, Underflow, NoGoto, Stack, Output, Moves, BadCell}
use Rattle.reads.specs.Reads.{Act, shift, reduce, accept, blank, malformed, Go, goes, nowhere, broken, Reads}
use Rattle.machine.specs.Machine.{Job, Config, Result, Step, on, halt, refused, current, pushed, written}
use Rattle.machine.specs.Machine.{after_shift, after_reduce, after_accept, gone, popped, acted, looked, move, then, run, start, begun, parse}
use Rattle.machine.specs.Laws.Simulation.{Rule, current-in}
use Rattle.soundness.specs.Path.{by-shift, by-goto, PathTo, here, along}
use Rattle.soundness.specs.Derivation.{Terminals, no-terminals, terminal, Rightmost, nothing_left, replace}
use Rattle.soundness.specs.Verdict.{by-rule, by-accept, Handle, Sound}
use Rattle.soundness.specs.Laws.Fills.{FillsGo, go-stays, go-signed, Fills, fills-shift, fills-accept}
use Rattle.soundness.specs.Laws.Proper.{Proper}
use Rattle.soundness.specs.Laws.Words.{reverse-on, reverse-last, unspelt, take_on, terminals-on, At, at-end, at-token, current-at}

-- what is said of an answer, and of the reductions made
abbrev pub Right : Grammar → List ℕ → Answer → List ℕ → Type 0
Right g tokens (Ok n) made = (n ≡ length made) × Terminals g.T tokens × Rightmost g (g.T ∷ []) (reverse made) tokens
Right g tokens (Err (Token i)) made = Unit {0}
Right g tokens (Err (Syntax i)) made = Unit {0}
Right g tokens (Err (Underflow i r)) made = ⊥
Right g tokens (Err (NoGoto i r)) made = ⊥
Right g tokens (Err (Stack i)) made = Unit {0}
Right g tokens (Err (Output i)) made = Unit {0}
Right g tokens (Err (Moves i)) made = Unit {0}
Right g tokens (Err (BadCell s)) made = Unit {0}

-- ---- paths

path-drop : {g : Grammar} {u : Reads} (ys : List ℕ) {s : ℕ} {ss xs : List ℕ} → PathTo g u s ss (ys ++ xs) → (p : ℕ) (ps : List ℕ)
    → drop (length ys) (s ∷ ss) ≡ p ∷ ps → PathTo g u p ps xs
path-drop [] {s} {ss} w p ps e = let a : s ≡ p = cc in let b : ss ≡ ps = cc in rw (← a, ← b) w
path-drop (y ∷ ys) (along e w) p ps q = path-drop ys w p ps q

-- what is left under a right side is a path too
pub handle-path : {g : Grammar} {u : Reads} {r s : ℕ} {ss xs : List ℕ} (h : Handle g u r s ss xs) → PathTo g u s ss xs → PathTo g u h.before h.earlier h.rest
handle-path {g} {u} {r} {s} {ss} h w =
    path-drop (reverse (g.right r)) (subst (λ (l : List ℕ). PathTo g u s ss l) h.spelt w) h.before h.earlier
    (ap (λ (n : ℕ). drop n (s ∷ ss)) (length-reverse (g.right r)) ∙ h.left_there)

module _ (g : Grammar) (u v : Reads) (fills : Fills u v) (ok : Proper g u v) (sound : Sound g u v) (j : Job) where
  -- no edge comes back to state 0
  path-start : {s : ℕ} {ss xs : List ℕ} → PathTo g u s ss xs → s ≡ 0 → xs ≡ []
  path-start here e = refl
  path-start (along {s = p} {x = x} {t = t} d w) e = absurd (ok.no_return p x t d e)

  -- the stack is a path; what was read are terminals, derived from the path's symbols, whatever terminals follow
  record Standing (c : Config) : Type 0 where
    symbols : List ℕ
    path : PathTo g u c.state c.below symbols
    read : Terminals g.T (take c.place j.tokens)
    derived : (w : List ℕ) → Terminals g.T w → Rightmost g (reverse symbols ++ w) (reverse c.made) (take c.place j.tokens ++ w)

  abbrev RightStep : Step → Type 0
  RightStep (on c) = Standing c
  RightStep (halt r) = Right g j.tokens r.answer r.made

  pushed-right : (b : Bool) (c d : Config) → Standing d → RightStep (pushed b c d)
  unfolding pushed refused
  pushed-right true c d k = k
  pushed-right false c d k = tt

  written-right : (b : Bool) (c : Config) (s : Step) → RightStep s → RightStep (written b c s)
  unfolding written refused
  written-right true c s k = k
  written-right false c s k = tt

  module _ (c : Config) (k : Standing c) where
    abbrev HandleOf : ℕ → Type 0
    HandleOf r = Handle g u r c.state c.below k.symbols

    shifted : (a t : ℕ) → At g.T j.tokens c.place a → u.act c.state a ≡ shift t → Standing (after_shift c t)
    unfolding after_shift
    shifted a t (at-end p z) q = absurd (ok.no-shift-of-end c.state t (rw z at q))
    shifted a t (at-token h i lo hi) q =
        record {
          symbols = a ∷ k.symbols;
          path = along (by-shift hi q) k.path;
          read = rw (take-suc j.tokens c.place 0 h, i) (terminals-on k.read lo hi);
          derived = λ w l.
              subst₂ (λ (p q : List ℕ). Rightmost g p (reverse c.made) q) (sym (reverse-on a k.symbols w)) (sym (take_on a c.place j.tokens w h i))
              (k.derived (a ∷ w) (terminal lo hi l));
        }

    accepts : (a : ℕ) → a < g.T → At g.T j.tokens c.place a → u.act c.state a ≡ accept → HandleOf 1
        → Terminals g.T j.tokens × Rightmost g (g.T ∷ []) (reverse (c.made ++ (1 ∷ []))) j.tokens
    accepts a l (at-token h i lo hi) q d = absurd (omega (arith, ok.accepts-at-end c.state a l q))
    accepts a l (at-end past z) q d =
        let none_left : d.rest ≡ [] = path-start (handle-path d k.path) (d.ends refl) in
        let before : Rightmost g (g.right 1 ++ []) (reverse c.made) j.tokens =
        subst₂ (λ (p q : List ℕ). Rightmost g p (reverse c.made) q)
        (unspelt k.symbols (g.right 1) d.rest [] d.spelt ∙ ap (λ (l : List ℕ). reverse l ++ (g.right 1 ++ [])) none_left)
        (append-nil (take c.place j.tokens) ∙ take_all c.place j.tokens past)
        (k.derived [] no-terminals) in (
          rw (take_all c.place j.tokens past) at k.read,
          subst₂ (λ (n : ℕ) (l : List ℕ). Rightmost g (n ∷ []) l j.tokens) ok.start_left (sym (reverse-last 1 c.made))
              (replace [] 1 [] (omega arith) ok.some-rule no-terminals before),
        )

    reduced : (r t : ℕ) (d : HandleOf r) → Rule g r → u.go d.before (g.left r) ≡ goes t → Standing (after_reduce c r d.before d.earlier t)
    unfolding after_reduce
    reduced r t d i q =
        let l : g.T ≤ g.left r = omega (arith, (ok.lefts r i).above) in
        record {
          symbols = g.left r ∷ d.rest;
          path = along (by-goto l (ok.lefts r i).below q) (handle-path d k.path);
          read = k.read;
          derived = λ w l.
              subst₂ (λ (p m : List ℕ). Rightmost g p m (take c.place j.tokens ++ w)) (sym (reverse-on (g.left r) d.rest w)) (sym (reverse-last r c.made))
              (replace (reverse d.rest) r w (omega (arith, i.low)) i.high l
              (subst (λ (p : List ℕ). Rightmost g p (reverse c.made) (take c.place j.tokens ++ w)) (unspelt k.symbols (g.right r) d.rest w d.spelt) (k.derived w l)));
        }

    gone-right : (r : ℕ) (d : HandleOf r) → Rule g r → {x y : Go} → FillsGo x y → u.go d.before (g.left r) ≡ x → RightStep (gone j c r d.before d.earlier y)
    unfolding gone refused
    gone-right r d i (go-stays {x = goes t}) e = pushed-right (ltb (suc (length d.earlier)) j.stack) c _ (reduced r t d i e)
    gone-right r d i (go-stays {x = nowhere}) e = absurd (d.leads (omega (arith, i.low)) e)
    gone-right r d i (go-stays {x = broken}) e = tt
    gone-right r d i go-signed e = absurd (d.leads (omega (arith, i.low)) e)

    acted-right : (a : ℕ) → a < g.T → At g.T j.tokens c.place a → (x : Act) → v.act c.state a ≡ x → RightStep (acted g v j c x)
    unfolding acted refused popped after_accept
    acted-right a l i malformed e = tt
    acted-right a l i blank e = tt
    acted-right a l i (shift t) e = pushed-right (ltb (suc (length c.below)) j.stack) c _ (shifted a t i (fills-shift (fills.acts c.state a) e))
    acted-right a l i accept e =
        let d : HandleOf 1 = sound 1 c.state c.below k.symbols k.path (by-accept a l e) in
        let n : suc (length c.made) ≡ length (c.made ++ (1 ∷ [])) = omega (arith, length-append c.made (1 ∷ [])) in
        let w : Terminals g.T j.tokens × Rightmost g (g.T ∷ []) (reverse (c.made ++ (1 ∷ []))) j.tokens =
        accepts a l i (fills-accept (fills.acts c.state a) e) d in
        written-right (ltb (length c.made) j.list) c _ (n, w.0, w.1)
    acted-right a l i (reduce r) e =
        let d : HandleOf r = sound r c.state c.below k.symbols k.path (by-rule a l e) in
        written-right (ltb (length c.made) j.list) c _
        (rw d.left_there (gone-right r d (ok.rules c.state a r l e) (fills.gos d.before (g.left r)) refl))

    looked-right : (x : Option ℕ) → current g.T j.tokens c.place ≡ x → RightStep (looked g v j c x)
    unfolding looked refused
    looked-right None e = tt
    looked-right (Some a) e =
        acted-right a (current-in g.T j.tokens c.place a ok.some-terminal e) (current-at g.T j.tokens c.place a e) (v.act c.state a) refl

  then-right : (K : Config → Result) (s : Step) → RightStep s → ((d : Config) → Standing d → Right g j.tokens (K d).answer (K d).made)
      → Right g j.tokens (then K s).answer (then K s).made
  unfolding then
  then-right K (on d) k next = next d k
  then-right K (halt r) k next = k

  run-right : (n : ℕ) (c : Config) → Standing c → Right g j.tokens (run g v j n c).answer (run g v j n c).made
  unfolding run refused move
  run-right zero c k = tt
  run-right (suc n) c k = then-right (run g v j n) (move g v j c) (looked-right c k (current g.T j.tokens c.place) refl) (run-right n)

  begun-right : (n : ℕ) (b : Bool) → Right g j.tokens (begun g v j n b).answer (begun g v j n b).made
  unfolding begun refused
  begun-right n true = run-right n start (record { symbols = []; path = here; read = no-terminals; derived = λ w l. nothing_left })
  begun-right n false = tt

  pub parse-right : (n : ℕ) → Right g j.tokens (parse g v j n).answer (parse g v j n).made
  unfolding parse
  parse-right n = begun-right n (ltb 0 j.stack)
