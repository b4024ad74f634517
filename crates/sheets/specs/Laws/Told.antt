-- Lines with these values are read back, and a text whose lines tell these values is those lines. Assumes nothing.
use Rattle.std.specs.Prelude.{◌≡◌, Bool, Option, Some, None, ℕ, suc, ◌+◌, ◌-◌, ◌≤◌, drop, get_or, refl, true, false, cond, List, [], ◌∷◌, ◌++◌, eqb, length}
use Rattle.std.proofs.Common.{sym, ap, ◌∙◌, arith, length-append, length-drop, eq-eqb, eqb-true}
use Rattle.std.proofs.Math.Seq.{drop-length}
use Rattle.sheets.specs.declared.Value.{Value}
use Rattle.sheets.specs.Sheet.{value, line}
use Rattle.sheets.specs.Lines.{stands, value_to, entry_at, Want, exactly, keyed, Told, values, bad_line, and_then, told, lines_from}
use Rattle.sheets.specs.Laws.Begins.{stands-true, stands_here, drop_past}
use Rattle.sheets.specs.Laws.Entries.{entry-back, entry-only}

-- the text of lines, where the keyed ones have these values
unfoldable pub text_of : List Want → List ℕ → List ℕ
text_of [] vs = []
text_of (exactly l ∷ ws) vs = l ++ text_of ws vs
text_of (keyed k ∷ ws) [] = []
text_of (keyed k ∷ ws) (v ∷ vs) = line k (value v) ++ text_of ws vs

-- how many lines are keyed
unfoldable pub keyed_of : List Want → ℕ
keyed_of [] = 0
keyed_of (exactly l ∷ ws) = keyed_of ws
keyed_of (keyed k ∷ ws) = suc (keyed_of ws)

-- every value can be written in a sheet
abbrev pub Small : List ℕ → Type 0
Small vs = (i : ℕ) → get_or vs i 0 ≤ 65535

-- ---- read back

module _ (text : List ℕ) where
  -- what stands at a place of the text ends within it
  ends-within : (at : ℕ) (l rest : List ℕ) → at ≤ length text → drop at text ≡ l ++ rest → at + length l ≤ length text
  ends-within at l rest h here =
      let n : length text - at ≡ length l + length rest = sym (length-drop at text) ∙ ap length here ∙ length-append l rest in omega arith

  pub told_back : (ws : List Want) (vs : List ℕ) (n at : ℕ) → at ≤ length text → drop at text ≡ text_of ws vs → length vs ≡ keyed_of ws → Small vs
      → lines_from text ws n at ≡ values vs
  unfolding lines_from text_of keyed_of
  told_back [] [] n at h here c s =
      let m : length text - at ≡ 0 = sym (length-drop at text) ∙ ap length here in
      rw (eq-eqb at (length text) (omega arith))
  told_back [] (v ∷ vs) n at h here c s = absurd (omega arith)
  told_back (exactly l ∷ ws) vs n at h here c s =
      rw (stands_here text at l (text_of ws vs) here)
      (told_back ws vs (n + 1) (at + length l) (ends-within at l (text_of ws vs) h here) (drop_past text at l (text_of ws vs) here) c s)
  told_back (keyed k ∷ ws) [] n at h here c s = absurd (omega arith)
  told_back (keyed k ∷ ws) (v ∷ vs) n at h here c s =
      rw (
        entry-back text at k v (text_of ws vs) (s 0) here,
        told_back ws vs (n + 1) (at + length (line k (value v)))
            (ends-within at (line k (value v)) (text_of ws vs) h here)
            (drop_past text at (line k (value v)) (text_of ws vs) here)
            (omega arith)
            (λ i. s (suc i)),
      )

  -- ---- and only they

  -- from `at` on the text is these lines with these values
  pub record Spelled (ws : List Want) (at : ℕ) (vs : List ℕ) : Type 0 where
    pub here : drop at text ≡ text_of ws vs
    pub count : length vs ≡ keyed_of ws

  told-values : {us vs : List ℕ} → values us ≡ values vs → us ≡ vs
  told-values e = cc

  told-bad : {n : ℕ} {vs : List ℕ} → bad_line n ≡ values vs → ⊥
  told-bad e = let z : ◌≡◌ {A = ℕ} 0 1 = cc in omega arith

  -- the values of a keyed line and of those after it
  keyed-only : (k : List ℕ) (ws : List Want) (vs : List ℕ) (at v p : ℕ) → entry_at text at k ≡ value_to v p → (t : Told) → ((us : List ℕ) → t ≡ values us → Spelled ws p us)
      → and_then v t ≡ values vs → Spelled (keyed k ∷ ws) at vs
  unfolding text_of keyed_of
  keyed-only k ws vs at v p e (bad_line n) r q = absurd (told-bad q)
  keyed-only k ws vs at v p e (values us) r q =
      let f : Spelled ws p us = r us refl in
      rw (← told-values q) (record {
        here = entry-only text at k v p e ∙ ap (λ (t : List ℕ). line k (value v) ++ t) f.here;
        count = let c : length us ≡ keyed_of ws = f.count in omega arith;
      })

  pub told-only : (ws : List Want) (vs : List ℕ) (n at : ℕ) → lines_from text ws n at ≡ values vs → Spelled ws at vs
  unfolding lines_from text_of keyed_of
  told-only [] vs n at e = by (eqb at (length text)) refl e
    where
      by : (b : Bool) → eqb at (length text) ≡ b → cond b (values []) (bad_line n) ≡ values vs → Spelled [] at vs
      by true s q = rw (← told-values q) (record { here = rw (eqb-true at (length text) s) (drop-length text); count = refl })
      by false s q = absurd (told-bad q)
  told-only (exactly l ∷ ws) vs n at e = by (stands text at l) refl (told-only ws vs (n + 1) (at + length l)) e
    where
      by : (b : Bool) → stands text at l ≡ b → (lines_from text ws (n + 1) (at + length l) ≡ values vs → Spelled ws (at + length l) vs)
          → cond b (lines_from text ws (n + 1) (at + length l)) (bad_line n) ≡ values vs
          → Spelled (exactly l ∷ ws) at vs
      by true s r q =
          let f : Spelled ws (at + length l) vs = r q in
          record { here = stands-true text at l s ∙ ap (λ (t : List ℕ). l ++ t) f.here; count = f.count }
      by false s r q = absurd (told-bad q)
  told-only (keyed k ∷ ws) vs n at e = by (entry_at text at k) refl (λ us p. told-only ws us (n + 1) p) e
    where
      by : (w : Option Value) → entry_at text at k ≡ w → ((us : List ℕ) (p : ℕ) → lines_from text ws (n + 1) p ≡ values us → Spelled ws p us)
          → told n w (lines_from text ws (n + 1)) ≡ values vs → Spelled (keyed k ∷ ws) at vs
      by None s r q = absurd (told-bad q)
      by (Some w) s r q = keyed-only k ws vs at w.number w.next s (lines_from text ws (n + 1) w.next) (λ us. r us w.next) q
