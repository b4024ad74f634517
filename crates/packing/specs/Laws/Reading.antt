-- Reading a complete board gives the filled table. Assumes nothing.
use Rattle.std.specs.Prelude.{◌≡◌, ◌≢◌, Bool, ltb, pos, negsuc, refl, ℕ, zero, suc, ◌+◌, ◌-◌, ◌*◌, ◌≤◌, ◌<◌, true, false, cond, eqb, Option, Some, None}
use Rattle.std.proofs.Common.{sym, ap, ◌∙◌, subst, true≢false, arith, eqb-true, eq-eqb, ne_eqb, lt-ltb, le-ltb, le-leb}
use Rattle.std.proofs.Math.Option.{some}
use Rattle.tables.specs.Laws.Tests.{and-true}
use Rattle.reads.specs.declared.Way.{Way}
use Rattle.reads.specs.declared.Way.TheVariants.{Direct, Pointer}
use Rattle.reads.specs.declared.Read.{Read}
use Rattle.reads.specs.declared.Read.TheVariants.{Shift, Reduce, Accept, Blank}
use Rattle.cells.specs.Read.{Kind, action, goto, Cells, is_number, found, is_state, state_read, rule_read, sign_read, entry_read, default_read, read_at, read_from, read_cell}
use Rattle.packing.specs.Job.{Act, blank, shift, rule, Job, neg, sign_check}
use Rattle.packing.specs.Rows.{rule_sign, state_sign, sign, kind_of, row, rep}
use Rattle.packing.specs.Board.{Owner, free, own, att, ent, dflt, St, is_free}
use Rattle.packing.specs.Packed.{place_of, check_of, base_at, check_at}
use Rattle.packing.specs.Promises.{ShiftsTo}
use Rattle.packing.specs.Laws.Rows.{or_else, filled, rep-idem, kind_b, row-kind, kind-one, row-entry, filled_row, rep-row, plan-skip, plan-action}
use Rattle.packing.specs.Laws.WellFormed.{OkTerm, OkGoto, InCols, WF}
use Rattle.packing.specs.Laws.Sound.{IsHome, EntAt, Fit, Sound}
use Rattle.packing.specs.Laws.Steps.{RowIn}
use Rattle.packing.specs.Laws.Complete.{Complete}
use Rattle.packing.specs.Laws.Stores.{home-base}

-- the cells of a board
abbrev pub cells : Job → ℕ → St → Cells
cells J W P = record { G = J.rules; W = W; base = base_at J P; check = check_at J P; target = J.off }

-- what a read has to answer where the table says e, with each state carried to its cell by `place`
abbrev pub Says : (ℕ → ℕ) → Option Read → Act → Type 0
Says place r blank = r ≡ Some Blank
Says place r (shift t) = ShiftsTo r (place t)
Says place r (rule q) = r ≡ cond (eqb q 1) (Some Accept) (Some (Reduce q))

-- the cell of each state on a board
abbrev pub placed : St → ℕ → ℕ
placed P t = place_of (P.place t)

module _ (J : Job) (W : ℕ) (P : St) (wf : WF J) (C : Complete J P) (room : P.top ≤ W) where
  S : Sound J P
  S = C.sound

  -- ---- a placed state

  att-base : (s x : ℕ) → P.place s ≡ some x → base_at J P (suc x) ≡ pos (P.base goto s)
  unfolding base_at
  att-base s x e = rw (S.attached s x e) refl

  att-check : (s x : ℕ) → P.place s ≡ some x → check_at J P (suc x) ≡ sign_check J (J.ssig s)
  unfolding check_at
  att-check s x e = rw (S.attached s x e) refl

  in-room : (s x : ℕ) → P.place s ≡ some x → suc x < W
  in-room s x e = let h = S.below (suc x) (rw (S.attached s x e) refl) in omega arith

  not-origin : (s x : ℕ) → 1 ≤ s → P.place s ≡ some x → 1 ≤ x
  not-origin s zero l e =
      let h : IsHome J (own 0) s = subst (λ (o : Owner). IsHome J o s) C.origin (S.home s zero e) in absurd (omega arith)
  not-origin s (suc x) l e = omega arith

  state_read_lem : (a s x : ℕ) (w : Way) → 1 ≤ a → 1 ≤ s → P.place s ≡ some x → state_read (cells J W P) a w x ≡ Some (Shift w)
  unfolding state_read is_state
  state_read_lem a s x w la ls e =
      let n = not-origin s x ls e in
      rw (ne_eqb a 0 (omega arith), ne_eqb x 0 (omega arith), lt-ltb (suc x) W (in-room s x e), home-base J P s x (S.home s x e) e)

  -- ---- what a found symbol tells

  data Shown (c a : ℕ) : Type 0 where
    by-ent : (k : Kind) (r : ℕ) → EntAt J P c k r a → Shown c a
    by-dflt : c ≡ J.off a → 1 ≤ J.gsig a → Shown c a

  shown : (c a : ℕ) → a < J.syms → found (cells J W P) c a ≡ true → Shown c a
  unfolding found check_at
  shown c a l h = go (P.owner c) (S.fit c) (and-true (ltb c W) h).1
    where
      sig : (r : ℕ) → is_number (sign_check J r) a ≡ true → ⊥
      sig zero e = let q = eqb-true J.syms a e in omega arith
      sig (suc r) e = true≢false (sym e)

      go : (o : Owner) → Fit J P c o → is_number (check_of J o) a ≡ true → Shown c a
      go free f e = let q = eqb-true J.syms a e in absurd (omega arith)
      go (own s) f e = let q = eqb-true J.syms a e in absurd (omega arith)
      go (att s) f e = absurd (sig (J.ssig s) e)
      go (ent k r d) f e = let q = eqb-true d a e in by-ent k r (rw q at f)
      go (dflt d) f e = let q = eqb-true d a e in by-dflt (rw (← q) f.0) (rw (← q) f.1)

  found-ent : (c a : ℕ) (o : Owner) → P.owner c ≡ o → is_free o ≡ false → check_of J o ≡ pos a → found (cells J W P) c a ≡ true
  unfolding found check_at
  found-ent c a o e f k =
      let l = S.below c (rw e f) in rw (lt-ltb c W (omega arith), e, k, eq-eqb a a refl) refl

  -- not written, not found
  unfound : (κ : Kind) (r a : ℕ) → 1 ≤ P.base κ r → a < J.syms → kind_of J a ≡ kind_b κ → row J κ r a ≡ blank → found (cells J W P) (P.base κ r + 2 * a) a ≡ false
  unfound κ r a lb la ka w = go (found (cells J W P) (P.base κ r + 2 * a) a) refl
    where
      no : Shown (P.base κ r + 2 * a) a → ⊥
      no (by-ent k q f) =
          let i : k ≡ κ = kind-one k κ (sym (row-kind J k q a f.written) ∙ ka) in
          let g : EntAt J P (P.base κ r + 2 * a) κ q a = rw i at f in
          let j : rep J κ r ≡ rep J κ q = S.inj κ r q lb (let h = g.at in omega arith) in
          g.written (sym (rep-row J κ r q a j ka) ∙ w)
      no (by-dflt i l) = let h = wf.edition.most a in omega arith

      go : (b : Bool) → found (cells J W P) (P.base κ r + 2 * a) a ≡ b → b ≡ false
      go true e = absurd (no (shown (P.base κ r + 2 * a) a la e))
      go false e = refl

  unsigned : (A : ℕ) → A < J.syms → J.gsig A ≡ 0 → found (cells J W P) (J.off A) A ≡ false
  unsigned A la z = go (found (cells J W P) (J.off A) A) refl
    where
      no : Shown (J.off A) A → ⊥
      no (by-ent k q f) = let h = wf.edition.most A in let i = f.at in let j = f.some-base in omega arith
      no (by-dflt i l) = omega arith

      go : (b : Bool) → found (cells J W P) (J.off A) A ≡ b → b ≡ false
      go true e = absurd (no (shown (J.off A) A la e))
      go false e = refl

  -- ---- a found entry

  pointer_read : (κ : Kind) (a c m y : ℕ) → m ≡ J.rules + y → 1 ≤ y → entry_read κ (cells J W P) a c (neg m) ≡ state_read (cells J W P) a (Pointer y) y
  pointer_read κ a c zero y e l = absurd (omega arith)
  pointer_read κ a c (suc n) y e l = go κ
    where
      far : state_read (cells J W P) a (Pointer (suc n - J.rules)) (suc n - J.rules) ≡ state_read (cells J W P) a (Pointer y) y
      far = ap (λ (x : ℕ). state_read (cells J W P) a (Pointer x) x) (omega arith)

      go : (κ : Kind) → entry_read κ (cells J W P) a c (negsuc n) ≡ state_read (cells J W P) a (Pointer y) y
      go action = rw (lt-ltb J.rules (suc n) (omega arith)) far
      go goto = rw (lt-ltb J.rules (suc n) (omega arith)) far

  shift-read : (κ : Kind) (r a c t y : ℕ) → P.owner c ≡ ent κ r a → row J κ r a ≡ shift t → 1 ≤ a → 1 ≤ t → P.place t ≡ some y
      → ShiftsTo (entry_read κ (cells J W P) a c (base_at J P c)) y
  shift-read κ r a c t y o w la lt p = go (eqb y c) refl
    where
      is : base_at J P c ≡ cond (eqb y c) (pos (P.base action t)) (neg (J.rules + y))
      is = unfold base_at in rw (o, w, p) refl

      go : (b : Bool) → eqb y c ≡ b → ShiftsTo (entry_read κ (cells J W P) a c (base_at J P c)) y
      go true e = (Direct y, refl, rw (is, e, ← eqb-true y c e) (state_read_lem a t y (Direct y) la lt p))
      go false e = (Pointer y, refl, rw (is, e) (pointer_read κ a c (J.rules + y) y refl (not-origin t y lt p) ∙ state_read_lem a t y (Pointer y) la lt p))

  rule-answer : (a q : ℕ) → 1 ≤ q → q ≤ J.rules → (q ≡ 1 → a ≡ 0) → (c : ℕ) → entry_read action (cells J W P) a c (neg q) ≡ cond (eqb q 1) (Some Accept) (Some (Reduce q))
  unfolding rule_read
  rule-answer a zero l m f c = absurd (omega arith)
  rule-answer a (suc n) l m f c = rw (le-ltb J.rules (suc n) m) (go (eqb (suc n) 1) refl)
    where
      go : (b : Bool) → eqb (suc n) 1 ≡ b → cond b (cond (eqb a 0) (Some Accept) None) (Some (Reduce (suc n))) ≡ cond b (Some Accept) (Some (Reduce (suc n)))
      go true e = rw (eq-eqb a 0 (f (eqb-true (suc n) 1 e)))
      go false e = refl

  rule-read : (r a c q : ℕ) → P.owner c ≡ ent action r a → row J action r a ≡ rule q → 1 ≤ q → q ≤ J.rules → (q ≡ 1 → a ≡ 0)
      → entry_read action (cells J W P) a c (base_at J P c) ≡ cond (eqb q 1) (Some Accept) (Some (Reduce q))
  rule-read r a c q o w l m f = rw is (rule-answer a q l m f c)
    where
      is : base_at J P c ≡ neg q
      is = unfold base_at in rw (o, w) refl

  sign-answer : (q : ℕ) → (1 ≤ q → (2 ≤ q) × (q ≤ J.rules)) → Says (placed P) (sign_read J.rules (sign_check J q)) (rule_sign q)
  sign-answer zero h = refl
  sign-answer (suc r) h =
      let g = h (omega arith) in
      rw (le-leb 2 (suc r) g.0, le-leb (suc r) J.rules g.1, ne_eqb (suc r) 1 (let two = g.0 in omega arith))

  hit : (κ : Kind) (x a t : ℕ) (o : Owner) → P.owner t ≡ o → is_free o ≡ false → check_of J o ≡ pos a → read_at κ (cells J W P) x a t ≡ entry_read κ (cells J W P) a t (base_at J P t)
  unfolding read_at
  hit κ x a t o e f k = rw (found-ent t a o e f k)

  missed : (κ : Kind) (x a t : ℕ) → found (cells J W P) t a ≡ false → read_at κ (cells J W P) x a t ≡ default_read κ (cells J W P) x a
  unfolding read_at
  missed κ x a t e = rw e

  -- a shift to the cell of t, read in another way, is a shift to the place of t
  shifts : {q r : Option Read} (t x : ℕ) → q ≡ r → P.place t ≡ some x → ShiftsTo r x → ShiftsTo q (placed P t)
  shifts t x e p h = (h.0, h.1 ∙ sym (ap place_of p), e ∙ h.2)

  -- ---- terminals

  read-action : (s x a : ℕ) → P.place s ≡ some x → read_cell action (cells J W P) x a ≡ read_at action (cells J W P) x a (P.base action s + 2 * a)
  unfolding read_cell
  read-action s x a e = rw (lt-ltb (suc x) W (in-room s x e), home-base J P s x (S.home s x e) e) refl

  packed-action : (s a : ℕ) → s < J.states → a < J.terms → (x : ℕ) → P.place s ≡ some x
      → Says (placed P) (read_cell action (cells J W P) x a) (filled J action s a)
  packed-action s a ls la x e =
      rw (filled_row J action s a ka, read-action s x a e) (go (row J action s a) refl)
    where
      la' : a < J.syms
      la' = let h = wf.some-syms in omega arith

      ρ : ℕ
      ρ = rep J action s

      I : RowIn J P action s
      I = C.rows action s ls (plan-action J s)

      same : row J action ρ a ≡ row J action s a
      same = rep-row J action ρ s a (rep-idem J action s) (lt-ltb a J.terms la)

      ka : kind_of J a ≡ kind_b action
      ka = lt-ltb a J.terms la

      t : ℕ
      t = P.base action s + 2 * a

      ok : row J action s a ≢ blank → OkTerm J a (row J action s a)
      ok w = subst (OkTerm J a) (row-entry J action s a w) (wf.term s a ls la)

      own-t : row J action s a ≢ blank → P.owner t ≡ ent action ρ a
      own-t w = (I.stored a la').owns w

      here : row J action s a ≢ blank → read_at action (cells J W P) x a t ≡ entry_read action (cells J W P) a t (base_at J P t)
      here w = hit action x a t (ent action ρ a) (own-t w) refl refl

      go : (k : Act) → row J action s a ≡ k → Says (placed P) (read_at action (cells J W P) x a t) (or_else k (sign J action s a))
      go blank w =
          rw (missed action x a t (unfound action s a I.some-base la' ka w), att-check s x e) (sign-answer (J.ssig s) (wf.signed s ls))
      go (rule q) w =
          let n : row J action s a ≢ blank = λ z. let y : ◌≡◌ {A = ℕ} 0 1 = cc in omega arith in
          let o : OkTerm J a (rule q) = rw w at (ok n) in
          here n ∙ rule-read ρ a t q (own-t n) (same ∙ w) o.0 o.1 o.2
      go (shift u) w =
          let n : row J action s a ≢ blank = λ z. let y : ◌≡◌ {A = ℕ} 0 1 = cc in omega arith in
          let o : OkTerm J a (shift u) = rw w at (ok n) in
          let g = (I.stored a la').goes u w in
          shifts u g.0 (here n) g.1 (shift-read action ρ a t u g.0 (own-t n) (same ∙ w) o.2 o.0 g.1)

  -- ---- nonterminals

  default-goto : (A x q : ℕ) → J.terms ≤ A → A < J.syms → J.gsig A ≡ q → Says (placed P) (default_read goto (cells J W P) x A) (state_sign q)
  default-goto A x zero tA lA e = rw (unsigned A lA e) refl
  default-goto A x (suc q) tA lA e =
      let g = C.targets A tA lA (omega arith) in
      let one = wf.some-terms in
      let p : P.place (suc q) ≡ some (J.off A) = rw e at g.1 in
      (Direct (J.off A), sym (ap place_of p), rw (found-ent (J.off A) A (dflt A) g.0 refl refl) (state_read_lem A (suc q) (J.off A) (Direct (J.off A)) (omega arith) (omega arith) p))

  read-goto : (s x A : ℕ) → P.place s ≡ some x → read_cell goto (cells J W P) x A ≡ read_from goto (cells J W P) x A (pos (P.base goto s))
  unfolding read_cell
  read-goto s x A e = rw (lt-ltb (suc x) W (in-room s x e), home-base J P s x (S.home s x e) e, att-base s x e) refl

  packed-goto : (s A : ℕ) → s < J.states → J.terms ≤ A → A < J.syms → (x : ℕ) → P.place s ≡ some x
      → Says (placed P) (read_cell goto (cells J W P) x A) (filled J goto s A)
  packed-goto s A ls tA lA x e =
      rw (filled_row J goto s A ka, read-goto s x A e) (at (P.base goto s) refl (row J goto s A) refl)
    where
      ka : kind_of J A ≡ kind_b goto
      ka = le-ltb A J.terms tA

      one : 1 ≤ J.terms
      one = wf.some-terms

      I : row J goto s A ≢ blank → RowIn J P goto s
      I w = C.rows goto s ls (λ z. w (plan-skip J goto s z A lA))

      ok : row J goto s A ≢ blank → OkGoto J (row J goto s A)
      ok w = subst (OkGoto J) (row-entry J goto s A w) (wf.nonterm s A ls tA lA)

      t : ℕ
      t = P.base goto s + 2 * A

      here : row J goto s A ≢ blank → read_at goto (cells J W P) x A t ≡ entry_read goto (cells J W P) A t (base_at J P t)
      here w = hit goto x A t (ent goto (rep J goto s) A) (((I w).stored A lA).owns w) refl refl

      from : (b : ℕ) → 1 ≤ b → read_from goto (cells J W P) x A (pos b) ≡ read_at goto (cells J W P) x A (b + 2 * A)
      from zero l = absurd (omega arith)
      from (suc b) l = refl

      at : (b : ℕ) → P.base goto s ≡ b → (k : Act) → row J goto s A ≡ k → Says (placed P) (read_from goto (cells J W P) x A (pos (P.base goto s))) (or_else k (sign J goto s A))
      at zero eb blank w = rw eb (default-goto A x (J.gsig A) tA lA refl)
      at (suc b) eb blank w =
          rw (from (P.base goto s) (omega arith), missed goto x A t (unfound goto s A (omega arith) lA ka w)) (default-goto A x (J.gsig A) tA lA refl)
      at b eb (rule q) w =
          let n : row J goto s A ≢ blank = λ z. let y : ◌≡◌ {A = ℕ} 0 1 = cc in omega arith in
          let o : OkGoto J (rule q) = rw w at (ok n) in absurd o
      at b eb (shift u) w =
          let n : row J goto s A ≢ blank = λ z. let y : ◌≡◌ {A = ℕ} 0 1 = cc in omega arith in
          let o : OkGoto J (shift u) = rw w at (ok n) in
          let h = (I n).stored A lA in
          let g = h.goes u w in
          shifts u g.0 (from (P.base goto s) (I n).some-base ∙ here n) g.1
          (shift-read goto (rep J goto s) A t u g.0 (h.owns n) (rep-row J goto (rep J goto s) s A (rep-idem J goto s) ka ∙ w) (omega arith) o.0 g.1)

  -- ---- PACKED

  pub packed : (κ : Kind) (s a : ℕ) → s < J.states → InCols J κ a
      → Says (placed P) (read_cell κ (cells J W P) (place_of (P.place s)) a) (filled J κ s a)
  packed action s a ls l = let h = C.homes s ls in rw h.1 (packed-action s a ls l h.0 h.1)
  packed goto s a ls l = let h = C.homes s ls in rw h.1 (packed-goto s a ls l.0 l.1 h.0 h.1)
