-- What packing leaves, for any job: cells that read as the filled table, sizes, places and count. Assumes nothing.
use Rattle.std.specs.Prelude as std
use Rattle.std.specs.Prelude.{◌≡◌, ℕ, zero, suc, ◌-◌, ◌≤◌, ◌<◌, Bool, true, false, leb, pos, refl, cond, get_or}
use Rattle.std.proofs.Common.{ap, sym, ◌∙◌, subst, arith, leb-true}
use Rattle.std.proofs.Math.Option.{Option, none, some}
use Rattle.std.proofs.Math.Decide.{dec_lt}
use Rattle.std.proofs.Math.ListN.{get_or-eq_default}
use Rattle.reads.specs.declared.Read.{Read}
use Rattle.cells.specs.Read.{Kind, action, goto, cells_of, read_cell}
use Rattle.packing.specs.Job.{Act, blank, shift, rule, Job}
use Rattle.packing.specs.Rows.{rule_sign, state_sign}
use Rattle.packing.specs.Board.{St, is_free, placement}
use Rattle.packing.specs.Packed.{place_of, base_at, check_at, mark_at, tabulate, Packed, arrays, fits, bound, pack}
use Rattle.packing.specs.Promises.{IsCount, Housed, Sized}
use Rattle.packing.specs.Laws.Rows.{or_else, filled}
use Rattle.packing.specs.Laws.WellFormed.{OkTerm, OkGoto, InCols, WF}
use Rattle.packing.specs.Laws.Sound.{Sound, place-inj}
use Rattle.packing.specs.Laws.Tied.{Tie}
use Rattle.packing.specs.Laws.Complete.{Complete, placement-ok}
use Rattle.packing.specs.Laws.Tabulate.{tab₀, length-tab}
use Rattle.packing.specs.Laws.Cells.{read-cong}
use Rattle.packing.specs.Laws.Reading.{cells, Says, placed, packed}

-- the arrays are those of a complete board that fits
pub record Made (J : Job) (W : ℕ) (A : Packed) : Type 0 where
  pub board : St
  pub complete : Complete J board
  pub room : board.top ≤ W
  pub out : arrays J W board ≡ A

pub made : (J : Job) (W : ℕ) (A : Packed) → pack J W ≡ some A → Made J W A
unfolding pack
made J W A e = of (placement J (bound J)) refl e
  where
    fit : (P : St) → placement J (bound J) ≡ some P → (t : Bool) → leb P.top W ≡ t → cond t (some (arrays J W P)) none ≡ some A → Made J W A
    fit P p true i h = record { board = P; complete = placement-ok J (bound J) P p; room = leb-true P.top W i; out = cc }
    fit P p false i h = absurd (let z : ◌≡◌ {A = ℕ} 0 1 = cc in omega arith)

    of : (o : Option St) → placement J (bound J) ≡ o → fits J W o ≡ some A → Made J W A
    of none p h = absurd (let z : ◌≡◌ {A = ℕ} 0 1 = cc in omega arith)
    of (some P) p h = fit P p (leb P.top W) refl h

-- every state that the filled table has is below L
filled-state : (J : Job) → WF J → (κ : Kind) (s a t : ℕ) → s < J.states → InCols J κ a → filled J κ s a ≡ shift t → t < J.states
filled-state J wf action s a t ls l e = go (J.entry s a) (wf.term s a ls l) (J.ssig s) e
  where
    go : (k : Act) → OkTerm J a k → (q : ℕ) → or_else k (rule_sign q) ≡ shift t → t < J.states
    go blank o zero h = absurd (let z : ◌≡◌ {A = ℕ} 0 1 = cc in omega arith)
    go blank o (suc q) h = absurd (let z : ◌≡◌ {A = ℕ} 0 1 = cc in omega arith)
    go (shift u) o q h = let z : u ≡ t = cc in omega arith
    go (rule r) o q h = absurd (let z : ◌≡◌ {A = ℕ} 0 1 = cc in omega arith)
filled-state J wf goto s a t ls l e = go (J.entry s a) (wf.nonterm s a ls l.0 l.1) (J.gsig a) (wf.target a) e
  where
    go : (k : Act) → OkGoto J k → (q : ℕ) → q < J.states → or_else k (state_sign q) ≡ shift t → t < J.states
    go blank o zero m h = absurd (let z : ◌≡◌ {A = ℕ} 0 1 = cc in omega arith)
    go blank o (suc q) m h = let z : suc q ≡ t = cc in omega arith
    go (shift u) o q m h = let z : u ≡ t = cc in omega arith
    go (rule r) o q m h = absurd o

-- ---- the arrays of a board that fits

module _ (J : Job) (W : ℕ) (P : St) (C : Complete J P) (room : P.top ≤ W) where
  places-at : (t : ℕ) → t < J.states → get_or (arrays J W P).places t 0 ≡ placed P t
  unfolding arrays
  places-at t lt = tab₀ (placed P) J.states 0 t lt

  -- the cells that the lists hold read as the board's cells
  read_same : (κ : Kind) (x a : ℕ) → read_cell κ (cells_of J.rules J.off (arrays J W P).bases (arrays J W P).checks) x a ≡ read_cell κ (cells J W P) x a
  unfolding arrays cells_of
  read_same κ x a =
      rw (length-tab (base_at J P) W 0)
      (read-cong J.rules W J.off (λ t. get_or (tabulate (base_at J P) W 0) t (pos 0)) (base_at J P)
      (λ t. get_or (tabulate (check_at J P) W 0) t (pos 0)) (check_at J P)
      (λ c l. tab₀ (base_at J P) W (pos 0) c l) (λ c l. tab₀ (check_at J P) W (pos 0) c l) κ x a)

  says-arrays : WF J → (κ : Kind) (s a : ℕ) → s < J.states → InCols J κ a
      → Says (λ t. get_or (arrays J W P).places t 0) (read_cell κ (cells_of J.rules J.off (arrays J W P).bases (arrays J W P).checks) (get_or (arrays J W P).places s 0) a) (filled J κ s a)
  says-arrays wf κ s a ls l =
      rw (read_same κ (get_or (arrays J W P).places s 0) a, places-at s ls)
      (carry (read_cell κ (cells J W P) (placed P s) a) (filled J κ s a) refl (packed J W P wf C room κ s a ls l))
    where
      carry : (r : std.Option Read) (k : Act) → filled J κ s a ≡ k → Says (placed P) r k → Says (λ t. get_or (arrays J W P).places t 0) r k
      carry r blank f h = h
      carry r (rule q) f h = h
      carry r (shift t) f h = (h.0, h.1 ∙ sym (places-at t (filled-state J wf κ s a t ls l f)), h.2)

  sized-arrays : Sized W J.states (arrays J W P)
  unfolding arrays
  sized-arrays =
      record {
        bases = length-tab (base_at J P) W 0;
        checks = length-tab (check_at J P) W 0;
        marks = length-tab (mark_at P) W 0;
        places = length-tab (placed P) J.states 0;
      }

  housed-arrays : 1 ≤ J.states → Housed W J.states (arrays J W P).places
  housed-arrays one =
      record {
        start = places-at 0 one ∙ ap place_of first_home;
        inside = λ s ls. let h = C.homes s ls in rw (places-at s ls, h.1) (let b = S.below (suc h.0) (rw (S.attached s h.0 h.1) refl) in omega arith);
        apart = λ s r ls lr e. same s r ls lr (sym (places-at s ls) ∙ e ∙ places-at r lr);
      }
    where
      S : Sound J P
      S = C.sound

      first_home : P.place 0 ≡ some 0
      first_home = subst (Tie J P 0) C.origin (C.tied 0)

      same : (s r : ℕ) → s < J.states → r < J.states → placed P s ≡ placed P r → s ≡ r
      same s r ls lr e =
          let h = C.homes s ls in
          let k = C.homes r lr in
          let q : h.0 ≡ k.0 = sym (ap place_of h.1) ∙ e ∙ ap place_of k.1 in
          place-inj J P s r h.0 S h.1 (k.1 ∙ ap some (sym q))

  counted-arrays : 1 ≤ J.states → IsCount (arrays J W P).marks (arrays J W P).count
  unfolding arrays
  counted-arrays one =
      record {
        some-cell = low;
        taken = tab₀ (mark_at P) W 0 (P.top - 1) (omega (arith, low)) ∙ ap (λ (b : Bool). cond {A = ℕ} b 0 1) (S.tight (P.top - 1) (omega (arith, low)));
        free-above = λ c l. above c l (is_free (P.owner c)) refl (dec_lt c W);
      }
    where
      S : Sound J P
      S = C.sound

      low : 1 ≤ P.top
      low = let h = C.homes 0 one in let b = S.below (suc h.0) (rw (S.attached 0 h.0 h.1) refl) in omega arith

      above : (c : ℕ) → P.top ≤ c → (b : Bool) → is_free (P.owner c) ≡ b → Dec (c < W) → get_or (tabulate (mark_at P) W 0) c 0 ≡ 0
      above c l b e (no n) = get_or-eq_default (tabulate (mark_at P) W 0) 0 (let q = length-tab (mark_at P) W 0 in omega arith)
      above c l true e (yes y) = tab₀ (mark_at P) W 0 c y ∙ rw e refl
      above c l false e (yes y) = let h = S.below c e in absurd (omega arith)

-- ---- of what packing answers

module _ (J : Job) (W : ℕ) (A : Packed) (e : pack J W ≡ some A) where
  M : Made J W A
  M = made J W A e

  -- PACKED
  pub packed-says : WF J → (κ : Kind) (s a : ℕ) → s < J.states → InCols J κ a
      → Says (λ t. get_or A.places t 0) (read_cell κ (cells_of J.rules J.off A.bases A.checks) (get_or A.places s 0) a) (filled J κ s a)
  packed-says wf κ s a ls l =
      subst (λ (B : Packed). Says (λ t. get_or B.places t 0) (read_cell κ (cells_of J.rules J.off B.bases B.checks) (get_or B.places s 0) a) (filled J κ s a)) M.out
      (says-arrays J W M.board M.complete M.room wf κ s a ls l)

  pub packed-sized : Sized W J.states A
  packed-sized = subst (Sized W J.states) M.out (sized-arrays J W M.board M.complete M.room)

  pub packed-housed : 1 ≤ J.states → Housed W J.states A.places
  packed-housed one = subst (λ (B : Packed). Housed W J.states B.places) M.out (housed-arrays J W M.board M.complete M.room one)

  pub packed-counted : 1 ≤ J.states → IsCount A.marks A.count
  packed-counted one = subst (λ (B : Packed). IsCount B.marks B.count) M.out (counted-arrays J W M.board M.complete M.room one)
