-- Rows compared column by column, as the code's loops do. Assumes nothing.
use Rattle.std.specs.Prelude.{◌≡◌, refl, Bool, true, false, ℕ, zero, suc, ◌≤◌, ◌<◌}
use Rattle.std.proofs.Common.{sym, ◌∙◌, true≢false, arith, eq-or-lt_of_le, eq-eqb, lt-ltb}
use Rattle.std.proofs.Math.Logic.{⊎_elim}
use Rattle.std.proofs.Math.Decide.{dec_lt}
use Rattle.std.proofs.Math.Bool.{or-true}
use Rattle.cells.specs.Read.{action, goto}
use Rattle.packing.specs.Job.{Act, blank, shift, Job}
use Rattle.packing.specs.Rows.{row, same_upto, same_row, empty_upto, rep}
use Rattle.packing.specs.Bench.{seen}
use Rattle.packing.specs.Laws.Rows.{same_at, same_row-of, empty-at, RepAt, rep_at}

by_bool : {X : Type 0} (b : Bool) → (b ≡ true → X) → (b ≡ false → X) → X
by_bool true f g = f refl
by_bool false f g = g refl

-- rows that differ in a column
pub same_upto_no : (f g : ℕ → Act) (n a : ℕ) → a < n → (f a ≡ g a → ⊥) → same_upto f g n ≡ false
same_upto_no f g n a h e = by_bool (same_upto f g n) (λ q. absurd (e (same_at f g n q a h))) (λ q. q)

-- a row with an entry is not empty
pub empty_upto_no : (f : ℕ → Act) (n a : ℕ) → a < n → (f a ≡ blank → ⊥) → empty_upto f n ≡ false
empty_upto_no f n a h e = by_bool (empty_upto f n) (λ q. absurd (e (empty-at f n q a h))) (λ q. q)

-- one with none is
pub empty_upto_yes : (f : ℕ → Act) (n : ℕ) → ((a : ℕ) → a < n → f a ≡ blank) → empty_upto f n ≡ true
empty_upto_yes f zero h = refl
empty_upto_yes f (suc n) h = rw (empty_upto_yes f n (λ a l. h a (omega arith)), h n (omega arith)) refl

-- a goto row has nothing in the columns of terminals
pub goto_blank : (J : Job) (s a : ℕ) → a < J.terms → row J goto s a ≡ blank
unfolding row
goto_blank J s a h = rw (lt-ltb a J.terms h) refl

-- a row that shifts to t in a column below n
pub seen_at : (f : ℕ → Act) (t n a : ℕ) → a < n → f a ≡ shift t → seen f t n ≡ true
seen_at f t zero a h e = absurd (omega arith)
seen_at f t (suc n) a h e =
    ⊎_elim
    (λ (q : a ≡ n). let d : f n ≡ shift t = rw q at e in rw (d, eq-eqb t t refl) refl)
    (λ (l : a < n). rw (seen_at f t n a l e) (or-true _))
    (eq-or-lt_of_le (let k : a ≤ n = omega arith in k))

-- the first state whose row is that of s
pub rep_is : (J : Job) (s j : ℕ) → j ≤ s → same_row J j s ≡ true → ((i : ℕ) → i < j → same_row J i s ≡ false) → j ≡ rep J action s
rep_is J s j h e before = go (rep_at J s)
  where
    go : RepAt J s 0 (rep J action s) → j ≡ rep J action s
    go p =
        by (dec_lt j (rep J action s)) (dec_lt (rep J action s) j)
      where
        by : Dec (j < rep J action s) → Dec (rep J action s < j) → j ≡ rep J action s
        by (yes m) d = absurd (true≢false (sym e ∙ p.least j (omega arith) m))
        by (no m) (yes l) = absurd (true≢false (sym (same_row-of J (rep J action s) s p.same) ∙ before (rep J action s) l))
        by (no m) (no l) = omega arith

-- s itself has its row
pub own_row : (J : Job) (s : ℕ) → same_row J s s ≡ true
own_row J s = same_row-of J s s (λ a l. refl)

-- what a comparison of two rows says
pub row_compared : (J : Job) (j s : ℕ) (f g : ℕ → Act) (T : ℕ) (r : Bool) → f ≡ row J action j → g ≡ row J action s → T ≡ J.terms → r ≡ same_upto f g T → same_row J j s ≡ r
unfolding same_row
row_compared J j s f g T r p q t e = sym (e ∙ rw (p, q, t) refl)
