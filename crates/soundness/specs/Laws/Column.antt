-- The check, column by column: what a loop over sets of states keeps.
use Rattle.std.specs.Prelude.{◌≡◌, refl, ◌≢◌, List, [], ◌∷◌, ◌++◌, ℕ}
use Rattle.std.proofs.Common.{arith}
use Rattle.tables.specs.Grammar.{Grammar}
use Rattle.reads.specs.Reads.{Reads}
use Rattle.soundness.specs.Path.{Edge, PathTo, here, along, Reach}
use Rattle.soundness.specs.Laws.Tail.{Tail, tail-nil, tail-nil⁻, tail-cons, tail-cons⁻, Failing}

-- a set that holds 0 and all that an edge leads to holds every state with a path
pub closed_all : {g : Grammar} {m : Reads} {R : ℕ → Type 0} → R 0 → ((p x t : ℕ) → R p → Edge g m p x t → R t)
    → {s : ℕ} {ss xs : List ℕ} → PathTo g m s ss xs → R s
closed_all z h here = z
closed_all z h (along {s = p} {x = x} {t = t} e w) = h p x t (closed_all z h w) e

abbrev pub AllTails : Grammar → Reads → (ℕ → Type 0) → List ℕ → ℕ → Type 0
AllTails g m F ys s = (ss xs : List ℕ) → PathTo g m s ss xs → Tail F ys s ss xs

-- of the symbols ys, whose last part is left to read, the states S are those where the paths into s stand
pub record Column (g : Grammar) (m : Reads) (F : ℕ → Type 0) (ys : List ℕ) (s : ℕ) (S : ℕ → Type 0) (left : List ℕ) : Type 0 where
  pub reachable : (t : ℕ) → S t → Reach g m t
  pub passes : ((t : ℕ) → S t → AllTails g m F left t) → AllTails g m F ys s
  pub faults : (t : ℕ) → S t → Failing g m F left t → Failing g m F ys s

module _ {g : Grammar} {m : Reads} {F : ℕ → Type 0} {ys : List ℕ} {s : ℕ} where
  pub column-start : Reach g m s → Column g m F ys s (λ t. t ≡ s) ys
  column-start r =
      record {
        reachable = λ t e. rw e r;
        passes = λ h. h s refl;
        faults = λ t e f. rw e at f;
      }

  -- one symbol further to the left: N are the reachable states with an edge on y into S, no other edge leads into S, and 0 is not in S
  pub column-step : {S N : ℕ → Type 0} {y : ℕ} {left : List ℕ} → Column g m F ys s S (y ∷ left)
      → ((t : ℕ) → S t → t ≢ 0)
      → ((p x t : ℕ) → S t → Reach g m p → Edge g m p x t → (x ≡ y) × N p)
      → ((p : ℕ) → N p → Reach g m p × ((t : ℕ) × S t × Edge g m p y t))
      → Column g m F ys s N left
  column-step {S} {N} {y} {left} c start only from =
      record {
        reachable = λ p n. (from p n).0;
        passes = λ h. c.passes (λ t k ss xs w. go h t k w);
        faults = λ p n f. c.faults (from p n).1.0 (from p n).1.1
            (record {
              states = p ∷ f.states;
              symbols = y ∷ f.symbols;
              path = along (from p n).1.2 f.path;
              fails = λ t. f.fails (tail-cons⁻ F y y left (from p n).1.0 p f.states f.symbols t).1;
            });
      }
    where
      go : ((t : ℕ) → N t → AllTails g m F left t) → (t : ℕ) {ss xs : List ℕ} → S t → PathTo g m t ss xs → Tail F (y ∷ left) t ss xs
      go h t k here = absurd (start 0 k refl)
      go h t k (along {s = p} {x = x} {ss = ss} {xs = xs} e w) =
          let o : (x ≡ y) × N p = only p x t k (record { states = ss; symbols = xs; path = w }) e in
          tail-cons F x y left t p ss xs o.0 (h p o.1 ss xs w)

  pub column-pass : {S : ℕ → Type 0} → Column g m F ys s S [] → ((t : ℕ) → S t → F t) → AllTails g m F ys s
  column-pass c h = c.passes (λ t k ss xs w. tail-nil F t ss xs (h t k))

  -- the three faults: F fails at the end, 0 is met too early, an edge has another symbol
  pub column-end : {S : ℕ → Type 0} → Column g m F ys s S [] → (t : ℕ) → S t → (F t → ⊥) → Failing g m F ys s
  column-end c t k n =
      let r : Reach g m t = c.reachable t k in
      c.faults t k (record { states = r.states; symbols = r.symbols; path = r.path; fails = λ h. n (tail-nil⁻ F t r.states r.symbols h) })

  pub column-short : {S : ℕ → Type 0} {y : ℕ} {left : List ℕ} → Column g m F ys s S (y ∷ left) → S 0 → Failing g m F ys s
  column-short {y = y} {left = left} c k =
      c.faults 0 k
      (record {
        states = [];
        symbols = [];
        path = here;
        fails = λ h. let q : [] ≡ y ∷ (left ++ h.rest) = h.spelt in let z : ◌≡◌ {A = ℕ} 0 1 = cc in omega arith;
      })

  pub column-other : {S : ℕ → Type 0} {y : ℕ} {left : List ℕ} → Column g m F ys s S (y ∷ left)
      → (p x t : ℕ) → S t → Reach g m p → Edge g m p x t → x ≢ y → Failing g m F ys s
  column-other {y = y} {left = left} c p x t k r e n =
      c.faults t k
      (record {
        states = p ∷ r.states;
        symbols = x ∷ r.symbols;
        path = along e r.path;
        fails = λ h. n (tail-cons⁻ F x y left t p r.states r.symbols h).0;
      })
