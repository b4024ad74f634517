-- The walk of a sheet is told as its lines are: the same values, or the same first line that is not as it must be. Assumes nothing.
use Rattle.std.specs.Prelude.{◌≡◌, refl, Bool, true, false, cond, Option, Some, None, Ok, Err, eqb, List, [], ◌∷◌, ◌++◌, ℕ, suc, ◌+◌, ◌-◌, length}
use Rattle.std.proofs.Common.{sym, ap, ◌∙◌, append-nil, arith}
use Rattle.tables.specs.declared.Sizes.{Sizes}
use Rattle.sheets.specs.declared.Value.{Value}
use Rattle.sheets.specs.Sheet.{state_key, goto_key, entry_key, header}
use Rattle.sheets.specs.Lines.{stands, entry_at, Want, exact_wants, entry_wants, wants, Told, values, bad_line, and_then, told, lines_from, lines_of}
use Rattle.sheets.specs.Walk.{Lines, bad, exact_from, end_at, Filled, entered, entries_from, Scanned, ended, aimed, ruled, scan_of}

-- values in front
abbrev pub in_front : List ℕ → Told → Told
in_front [] t = t
in_front (v ∷ vs) t = and_then v (in_front vs t)

in-front-values : (vs us : List ℕ) → in_front vs (values us) ≡ values (vs ++ us)
in-front-values [] us = refl
in-front-values (v ∷ vs) us = rw (in-front-values vs us)

in-front-bad : (vs : List ℕ) (n : ℕ) → in_front vs (bad_line n) ≡ bad_line n
in-front-bad [] n = refl
in-front-bad (v ∷ vs) n = rw (in-front-bad vs n)

-- lines that end so, with these values, and f of where the text goes on
abbrev on_ends : (ℕ → Told) → List ℕ → Lines → Told
on_ends f vs (Err b) = bad_line b.0
on_ends f vs (Ok at) = in_front vs (f at)

ends_more : (f : ℕ → Told) (v : ℕ) (vs : List ℕ) (e : Lines) → and_then v (on_ends f vs e) ≡ on_ends f (v ∷ vs) e
ends_more f v vs (Err b) = refl
ends_more f v vs (Ok at) = refl

module _ (text : List ℕ) (ws : List Want) where
  pub lines-exact : (ls : List (List ℕ)) (n at : ℕ)
      → lines_from text (exact_wants ls ++ ws) n at ≡ on_ends (lines_from text ws (n + length ls)) [] (exact_from text ls n at)
  unfolding exact_wants lines_from exact_from
  lines-exact [] n at = let e : n + 0 ≡ n = omega arith in rw e
  lines-exact (l ∷ ls) n at = by (stands text at l) (lines-exact ls (n + 1) (at + length l))
    where
      further : n + 1 + length ls ≡ n + suc (length ls)
      further = omega arith

      by : (b : Bool)
          → lines_from text (exact_wants ls ++ ws) (n + 1) (at + length l) ≡ on_ends (lines_from text ws (n + 1 + length ls)) [] (exact_from text ls (n + 1) (at + length l))
          → cond b (lines_from text (exact_wants ls ++ ws) (n + 1) (at + length l)) (bad_line n)
          ≡ on_ends (lines_from text ws (n + suc (length ls))) [] (cond b (exact_from text ls (n + 1) (at + length l)) (bad n))
      by true e = rw (← further) e
      by false e = refl

  pub lines-entries : (key : List ℕ) (i n at : ℕ) (vs : List ℕ)
      → lines_from text (entry_wants key i (length vs) ++ ws) n at
      ≡ on_ends (lines_from text ws (n + length vs)) (entries_from text key i n at vs).values (entries_from text key i n at vs).ends
  unfolding entry_wants lines_from entries_from
  lines-entries key i n at [] = let e : n + 0 ≡ n = omega arith in rw e
  lines-entries key i n at (v ∷ vs) = by (entry_at text at (entry_key key i)) (λ p. lines-entries key (i + 1) (n + 1) p vs)
    where
      further : n + 1 + length vs ≡ n + suc (length vs)
      further = omega arith

      rest : ℕ → Filled
      rest p = entries_from text key (i + 1) (n + 1) p vs

      by : (x : Option Value)
          → ((p : ℕ) → lines_from text (entry_wants key (i + 1) (length vs) ++ ws) (n + 1) p ≡ on_ends (lines_from text ws (n + 1 + length vs)) (rest p).values (rest p).ends)
          → told n x (lines_from text (entry_wants key (i + 1) (length vs) ++ ws) (n + 1))
          ≡ on_ends (lines_from text ws (n + suc (length vs))) (entered n (v ∷ vs) x rest).values (entered n (v ∷ vs) x rest).ends
      by None e = refl
      by (Some w) e = rw (e w.next, further) (ends_more (lines_from text ws (n + suc (length vs))) w.number (rest w.next).values (rest w.next).ends)

lines_end : (text : List ℕ) (n at : ℕ) → lines_from text [] n at ≡ on_ends (λ p. values []) [] (end_at text n at)
unfolding lines_from end_at
lines_end text n at = by (eqb at (length text))
  where
    by : (b : Bool) → cond b (values []) (bad_line n) ≡ on_ends (λ p. values []) [] (cond b (Ok at) (bad n))
    by true = refl
    by false = refl

-- ---- the whole sheet

header-lines : (z : Sizes) (states : ℕ) → 1 + length (header z states) ≡ 6
unfolding header
header-lines z states = refl

-- what a walk tells
abbrev told_at : List ℕ → Lines → Told
told_at vs (Err b) = bad_line b.0
told_at vs (Ok at) = values vs

abbrev pub told_of : Scanned → Told
told_of s = told_at (s.rules ++ s.targets) s.ends

at-end : (rules targets : List ℕ) (e : Lines) → in_front rules (in_front targets (on_ends (λ p. values []) [] e)) ≡ told_at (rules ++ targets) e
at-end rules targets (Err b) = rw (in-front-bad targets b.0, in-front-bad rules b.0)
at-end rules targets (Ok at) = rw (in-front-values targets [], append-nil targets, in-front-values rules targets)

module _ (z : Sizes) (text : List ℕ) where
  ended-told : (n : ℕ) (rules targets : List ℕ) (e : Lines) → in_front rules (on_ends (lines_from text [] n) targets e) ≡ told_of (ended text n rules targets e)
  ended-told n rules targets (Err b) = in-front-bad rules b.0
  ended-told n rules targets (Ok at) = rw (lines_end text n at) (at-end rules targets (end_at text n at))

  aimed-told : (n : ℕ) (rules targets : List ℕ) (e : Lines)
      → on_ends (lines_from text (entry_wants goto_key (z.terminals + 1) (length targets)) n) rules e ≡ told_of (aimed z n text rules targets e)
  aimed-told n rules targets (Err b) = refl
  aimed-told n rules targets (Ok at) =
      ap (λ (ws : List Want). in_front rules (lines_from text ws n at)) (sym (append-nil (entry_wants goto_key (z.terminals + 1) (length targets))))
      ∙ ap (in_front rules) (lines-entries text [] goto_key (z.terminals + 1) n at targets)
      ∙ ended-told (n + length targets) rules _ (entries_from text goto_key (z.terminals + 1) n at targets).ends

  ruled-told : (rules targets : List ℕ) (e : Lines)
      → on_ends (lines_from text (entry_wants state_key 0 (length rules) ++ entry_wants goto_key (z.terminals + 1) (length targets)) 6) [] e
      ≡ told_of (ruled z (length rules) text rules targets e)
  ruled-told rules targets (Err b) = refl
  ruled-told rules targets (Ok at) =
      lines-entries text (entry_wants goto_key (z.terminals + 1) (length targets)) state_key 0 6 at rules
      ∙ aimed-told (6 + length rules) _ targets (entries_from text state_key 0 6 at rules).ends

  pub scan-told : (rules targets : List ℕ) → length targets ≡ z.symbols - z.terminals - 1
      → lines_of z (length rules) text ≡ told_of (scan_of z (length rules) text rules targets)
  unfolding lines_of wants scan_of
  scan-told rules targets e =
      rw (← e)
      (lines-exact text _ (header z (length rules)) 1 0
      ∙ rw (header-lines z (length rules)) (ruled-told rules targets (exact_from text (header z (length rules)) 1 0)))
