-- The text of a signing is the lines that a sheet must have, with the signing's entries for values. Assumes nothing.
use Rattle.std.specs.Prelude.{◌≡◌, refl, ℕ, zero, suc, ◌+◌, ◌-◌, length, List, [], ◌∷◌, ◌++◌, drop}
use Rattle.std.proofs.Common.{sym, ap, ◌∙◌, arith, append_assoc}
use Rattle.tables.specs.declared.Sizes.{Sizes}
use Rattle.sheets.specs.Sheet.{state_key, goto_key, entry_key, value, line, header, entries, joined, sheet_lines, sheet_text}
use Rattle.sheets.specs.Lines.{Want, entry_wants, exact_wants, wants}
use Rattle.sheets.specs.Laws.Told.{text_of, keyed_of}

joined-append : (a b : List (List ℕ)) → joined (a ++ b) ≡ joined a ++ joined b
unfolding joined
joined-append [] b = refl
joined-append (l ∷ a) b = ap (λ (t : List ℕ). l ++ t) (joined-append a b) ∙ sym (append_assoc l (joined a) (joined b))

exact-text : (ls : List (List ℕ)) (ws : List Want) (vs : List ℕ) → text_of (exact_wants ls ++ ws) vs ≡ joined ls ++ text_of ws vs
unfolding text_of exact_wants joined
exact-text [] ws vs = refl
exact-text (l ∷ ls) ws vs = ap (λ (t : List ℕ). l ++ t) (exact-text ls ws vs) ∙ sym (append_assoc l (joined ls) (text_of ws vs))

entry-text : (key : List ℕ) (i : ℕ) (vs us : List ℕ) (ws : List Want) → text_of (entry_wants key i (length vs) ++ ws) (vs ++ us) ≡ joined (entries key i vs) ++ text_of ws us
unfolding text_of entry_wants entries joined
entry-text key i [] us ws = refl
entry-text key i (v ∷ vs) us ws =
    ap (λ (t : List ℕ). line (entry_key key i) (value v) ++ t) (entry-text key (i + 1) vs us ws)
    ∙ sym (append_assoc (line (entry_key key i) (value v)) (joined (entries key (i + 1) vs)) (text_of ws us))

-- the entries are the last lines
last-text : (key : List ℕ) (i : ℕ) (vs : List ℕ) → text_of (entry_wants key i (length vs)) vs ≡ joined (entries key i vs)
unfolding text_of entry_wants entries joined
last-text key i [] = refl
last-text key i (v ∷ vs) = ap (λ (t : List ℕ). line (entry_key key i) (value v) ++ t) (last-text key (i + 1) vs)

exact-count : (ls : List (List ℕ)) (ws : List Want) → keyed_of (exact_wants ls ++ ws) ≡ keyed_of ws
unfolding keyed_of exact_wants
exact-count [] ws = refl
exact-count (l ∷ ls) ws = exact-count ls ws

entry-count : (key : List ℕ) (i n : ℕ) (ws : List Want) → keyed_of (entry_wants key i n ++ ws) ≡ n + keyed_of ws
unfolding keyed_of entry_wants
entry-count key i zero ws = omega arith
entry-count key i (suc n) ws = ap suc (entry-count key (i + 1) n ws) ∙ (let e : suc (n + keyed_of ws) ≡ suc n + keyed_of ws = omega arith in e)

last-count : (key : List ℕ) (i n : ℕ) → keyed_of (entry_wants key i n) ≡ n
unfolding keyed_of entry_wants
last-count key i zero = refl
last-count key i (suc n) = ap suc (last-count key (i + 1) n)

-- the text of a signing: the header, the entries of the states, those of the nonterminals
pub sheet-parts : (z : Sizes) (states : ℕ) (srule sgoto : List ℕ)
    → sheet_text z states srule sgoto
    ≡ joined (header z states) ++ (joined (entries state_key 0 srule) ++ joined (entries goto_key (z.terminals + 1) (drop 1 sgoto)))
unfolding sheet_text sheet_lines
sheet-parts z states srule sgoto =
    joined-append (header z states) (entries state_key 0 srule ++ entries goto_key (z.terminals + 1) (drop 1 sgoto))
    ∙ ap (λ (l : List ℕ). joined (header z states) ++ l) (joined-append (entries state_key 0 srule) (entries goto_key (z.terminals + 1) (drop 1 sgoto)))

module _ (z : Sizes) (states : ℕ) where
  -- a sheet has a value for each state and for each nonterminal but T
  pub wants-count : keyed_of (wants z states) ≡ states + (z.symbols - z.terminals - 1)
  unfolding wants
  wants-count =
      exact-count (header z states) _
      ∙ entry-count state_key 0 states _
      ∙ ap (λ (n : ℕ). states + n) (last-count goto_key (z.terminals + 1) (z.symbols - z.terminals - 1))

  pub wants-text : (rules targets : List ℕ) → length rules ≡ states → length (drop 1 targets) ≡ z.symbols - z.terminals - 1
      → text_of (wants z states) (rules ++ drop 1 targets) ≡ sheet_text z states rules targets
  unfolding wants
  wants-text rules targets r t =
      exact-text (header z states) _ (rules ++ drop 1 targets)
      ∙ ap (λ (l : List ℕ). joined (header z states) ++ l) (rw (← r, ← t) (
      entry-text state_key 0 rules (drop 1 targets) _
      ∙ ap (λ (l : List ℕ). joined (entries state_key 0 rules) ++ l) (last-text goto_key (z.terminals + 1) (drop 1 targets))))
      ∙ sym (sheet-parts z states rules targets)
