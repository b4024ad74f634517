-- The row step on the bench is the row step on the board, or NOROOM. Assumes nothing.
use Rattle.std.specs.Prelude.{◌≡◌, refl, ℕ, zero, suc, ◌+◌, ◌-◌, ◌*◌, ◌≤◌, ◌<◌, Bool, true, false, not, cond, ◌&&◌, leb}
use Rattle.std.proofs.Common.{sym, ap, ap₂, ◌∙◌, subst, true≢false, arith, le-leb}
use Rattle.std.proofs.Math.Option.{Option, none, some}
use Rattle.std.proofs.Math.Decide.{dec_lt}
use Rattle.cells.specs.Read.{Kind}
use Rattle.packing.specs.Job.{Act, blank, shift, rule, Job}
use Rattle.packing.specs.Rows.{row, rep, Plan, search, share, skip, plan}
use Rattle.packing.specs.Board.{St, set_base, first, used, try_of, try_row, row_by, row_step}
use Rattle.packing.specs.Bench.{Bench, fill_b, base_b, inside, free_b, no_cell_b, base_of_b, needs, needs_upto, try_b, first_b, nat_of, place_b, row_by_b, row_b}
use Rattle.packing.specs.Laws.Rows.{plan-search, plan-share}
use Rattle.packing.specs.Laws.WellFormed.{RowOk}
use Rattle.packing.specs.Laws.Grow.{SetB, this-row, other_row, setb-at, setb-same}
use Rattle.packing.specs.Laws.Sound.{sound-setb}
use Rattle.packing.specs.Laws.Tied.{tie-places}
use Rattle.packing.specs.Laws.Fill.{used-ok}
use Rattle.packing.specs.Laws.Steps.{Late}
use Rattle.packing.specs.Laws.Needs.{free_in, no_cell, done, rel-begin, try-words}
use Rattle.packing.specs.Laws.Bench.{render, Live, used-late, free_b-is, no_cell_b-is, base_of_b-is, Homes, used_b-is}
use Rattle.packing.specs.Laws.Filling.{fill-square, base-square}
use Rattle.packing.specs.Laws.Room.{fill-room}

-- ---- the tests of a base are the board's

needs-cong : (φ ψ hl gl : ℕ → Bool) (f : ℕ → Act) (b a : ℕ) (e : Act) → ((c : ℕ) → φ c ≡ ψ c) → ((t : ℕ) → e ≡ shift t → hl t ≡ gl t) → needs φ hl f b a e ≡ needs ψ gl f b a e
needs-cong φ ψ hl gl f b a blank p q = refl
needs-cong φ ψ hl gl f b a (rule r) p q = p (b + 2 * a)
needs-cong φ ψ hl gl f b a (shift t) p q = rw (p (b + 2 * a), p (suc (b + 2 * a)), q t refl) refl

needs_upto-cong : (φ ψ hl gl : ℕ → Bool) (f : ℕ → Act) (b n : ℕ) → ((c : ℕ) → φ c ≡ ψ c) → ((a t : ℕ) → f a ≡ shift t → hl t ≡ gl t) → needs_upto φ hl f b n ≡ needs_upto ψ gl f b n
needs_upto-cong φ ψ hl gl f b zero p q = refl
needs_upto-cong φ ψ hl gl f b (suc n) p q = ap₂ ◌&&◌ (needs_upto-cong φ ψ hl gl f b n p q) (needs-cong φ ψ hl gl f b n (f n) p (q n))

pub first-same : (f : ℕ → Option St) (g : ℕ → Bool) (n b : ℕ) (Q : St) → ((c : ℕ) → b ≤ c → g c ≡ done (f c)) → first f n b (f b) ≡ some Q → f (first_b g n b (g b)) ≡ some Q
first-same f g n b Q h e = go n b h (f b) (g b) refl refl e
  where
    go : (n b : ℕ) → ((c : ℕ) → b ≤ c → g c ≡ done (f c)) → (o : Option St) (t : Bool) → f b ≡ o → g b ≡ t → first f n b o ≡ some Q → f (first_b g n b t) ≡ some Q
    go zero b h (some P) true i j k = i ∙ k
    go zero b h (some P) false i j k = i ∙ k
    go zero b h none true i j k = i ∙ k
    go zero b h none false i j k = i ∙ k
    go (suc n) b h (some P) true i j k = i ∙ k
    go (suc n) b h (some P) false i j k = absurd (true≢false (sym (ap done i) ∙ sym (h b (omega arith)) ∙ j))
    go (suc n) b h none true i j k = absurd (true≢false (sym j ∙ h b (omega arith) ∙ ap done i))
    go (suc n) b h none false i j k = go n (suc b) (λ c l. h c (omega arith)) (f (suc b)) (g (suc b)) refl refl k

pub first-from : (g : ℕ → Bool) (n b : ℕ) (t : Bool) → b ≤ first_b g n b t
first-from g zero b true = omega arith
first-from g zero b false = omega arith
first-from g (suc n) b true = omega arith
first-from g (suc n) b false = let i = first-from g n (suc b) (g (suc b)) in omega arith

try_b-is : (J : Job) (W : ℕ) (P : St) (κ : Kind) (s b : ℕ) → Live J P → P.top ≤ W → s < J.states → Homes P s → Late P κ s → RowOk J κ s → 1 ≤ b
    → try_b J κ s (render J W P) b ≡ done (try_row J κ s P b)
unfolding try_b
try_b-is J W P κ s b l room ls h late ok lb =
    ap₂ (λ (x y : Bool). not x && y) (used_b-is J W P κ b s l room (omega arith) h ∙ all)
    (needs_upto-cong (free_b (render J W P)) (free_in P) (no_cell_b (render J W P)) (no_cell P) (row J κ s) b J.syms (λ c. free_b-is J W P c l room)
    (λ a t e. no_cell_b-is J W P t l (ok a t e).0 (ok a t e).1))
    ∙ sym (try-words J κ s P b)
  where
    all : used P κ b s ≡ used P κ b J.states
    all = sym (used-late P κ b s (J.states - s) lb late) ∙ ap (used P κ b) (let q : s + (J.states - s) ≡ J.states = omega arith in q)

live-set : (J : Job) (P : St) (κ : Kind) (s b x : ℕ) → Live J P → P.base κ s ≡ 0 → P.place s ≡ some x → ((r : ℕ) → P.base κ r ≡ b → rep J κ r ≡ rep J κ s) → Live J (set_base κ s b P)
live-set J P κ s b x l z e new =
    record {
      sound = sound-setb J P κ s b z new l.sound;
      tied = λ c. unfold set_base in tie-places J P (set_base κ s b P) c (P.owner c) (λ r y k. k) (l.tied c);
      origin = unfold set_base in l.origin;
      unbased = λ t k q. at t q (unfold set_base in k) (setb-at P κ s b q t);
    }
  where
    at : (t : ℕ) (q : Kind) → P.place t ≡ none → SetB P κ s b q t → (set_base κ s b P).base q t ≡ 0
    at t q k (this-row i j u) = let y : none ≡ some x = sym k ∙ ap P.place j ∙ e in absurd (let w : ◌≡◌ {A = ℕ} 0 1 = cc in omega arith)
    at t q k (other_row i u) = u ∙ l.unbased t k q

-- what the row step answers on the arrays: the arrays of the board after it, or none where there is no room
abbrev pub Answer : Job → ℕ → St → Option Bench
Answer J W Q = cond (leb Q.top W) (some (render J W Q)) none

search-square : (J : Job) (W : ℕ) (P Q : St) (κ : Kind) (s b x : ℕ) → Live J P → P.top ≤ W → s < J.states → rep J κ s ≡ s → P.place s ≡ some x → Late P κ s → RowOk J κ s → 1 ≤ b
    → try_row J κ s P b ≡ some Q → place_b J W κ s (render J W P) b ≡ Answer J W Q
unfolding try_row
search-square J W P Q κ s b x l room ls re e late ok lb h = go (used P κ b J.states) refl h
  where
    go : (t : Bool) → used P κ b J.states ≡ t → try_of t J κ s b P ≡ some Q → place_b J W κ s (render J W P) b ≡ Answer J W Q
    go true i k = absurd (let z : ◌≡◌ {A = ℕ} 0 1 = cc in omega arith)
    go false i k =
        ap₂ (λ (t : Bool) (A : Bench). cond t (some A) none)
        (needs_upto-cong (inside W) (inside W) (no_cell_b (render J W P)) (no_cell P) (row J κ s) b J.syms (λ c. refl) (λ a t w. no_cell_b-is J W P t l (ok a t w).0 (ok a t w).1) ∙ sym fits)
        (sym (sq.1 ∙ ap (fill_b J κ s b J.syms) (base-square J W κ s b x P l ls e)))
      where
        new : (r : ℕ) → P.base κ r ≡ b → ⊥
        new r j = at (dec_lt r J.states)
          where
            at : Dec (r < J.states) → ⊥
            at (yes y) = used-ok P κ b J.states i r y j
            at (no y) = let z = late r (omega arith) in omega arith

        l' : Live J (set_base κ s b P)
        l' = live-set J P κ s b x l (late s (omega arith)) e (λ r j. absurd (new r j))

        sq : Live J Q × (render J W Q ≡ fill_b J κ s b J.syms (render J W (set_base κ s b P)))
        sq = fill-square J W κ s b J.syms (set_base κ s b P) Q re (setb-same P κ s b) lb ok l' k

        top-same : leb (set_base κ s b P).top W ≡ true
        top-same = unfold set_base in le-leb P.top W room

        fits : leb Q.top W ≡ needs_upto (inside W) (no_cell P) (row J κ s) b J.syms
        fits = fill-room J W κ s b J.syms P (set_base κ s b P) Q (rel-begin J P κ s b) k ∙ ap (λ (z : Bool). z && needs_upto (inside W) (no_cell P) (row J κ s) b J.syms) top-same

pub row-square : (J : Job) (W fuel : ℕ) (κ : Kind) (s x : ℕ) (P Q : St) → Live J P → P.top ≤ W → s < J.states → P.place s ≡ some x → Homes P s → Late P κ s → RowOk J κ s
    → row_step J fuel κ s P ≡ some Q → row_b J W fuel κ s (render J W P) ≡ Answer J W Q
unfolding row_step row_b
row-square J W fuel κ s x P Q l room ls e h late ok step = go (plan J κ s) refl step
  where
    A : Bench
    A = render J W P

    fits : (R : St) → R.top ≡ P.top → (B : Bench) → render J W R ≡ B → some B ≡ Answer J W R
    fits R t B i = ap some (sym i) ∙ ap (λ (b : Bool). cond b (some (render J W R)) none) (sym (ap (λ (z : ℕ). leb z W) t ∙ le-leb P.top W room))

    go : (p : Plan) → plan J κ s ≡ p → row_by p J fuel κ s P ≡ some Q → row_by_b p J W fuel κ s A ≡ Answer J W Q
    go skip i k = let q : P ≡ Q = cc in subst (λ (R : St). some A ≡ Answer J W R) q (fits P refl A refl)
    go (share r) i k =
        let sh = plan-share J κ s r i in
        let hr = h r sh.earlier in
        let q : set_base κ s (P.base κ r) P ≡ Q = cc in
        let v : nat_of (base_of_b κ A r) ≡ P.base κ r = ap nat_of (base_of_b-is J W P κ r hr.0 l room (let z = sh.earlier in omega arith) hr.1) in
        subst (λ (R : St). some (base_b κ s (nat_of (base_of_b κ A r)) A) ≡ Answer J W R) q
        (fits (set_base κ s (P.base κ r) P) (unfold set_base in refl) (base_b κ s (nat_of (base_of_b κ A r)) A)
        (base-square J W κ s (P.base κ r) x P l ls e ∙ ap (λ (n : ℕ). base_b κ s n A) (sym v)))
    go search i k =
        let b = first_b (try_b J κ s A) fuel 1 (try_b J κ s A 1) in
        let t : try_row J κ s P b ≡ some Q = first-same (try_row J κ s P) (try_b J κ s A) fuel 1 Q (λ c m. try_b-is J W P κ s c l room ls h late ok m) k in
        search-square J W P Q κ s b x l room ls (plan-search J κ s i) e late ok (first-from (try_b J κ s A) fuel 1 (try_b J κ s A 1)) t
