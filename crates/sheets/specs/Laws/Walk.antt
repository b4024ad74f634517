-- Known lines, and entries that are read into an array one by one. Assumes nothing.
use Rattle.std.specs.Prelude.{◌≡◌, refl, Bool, true, false, cond, Option, Some, None, Ok, Err, slice_set, [], ℕ, suc, ◌+◌, ◌≤◌, ◌<◌, length, take, drop, List, ◌∷◌, ◌++◌}
use Rattle.std.proofs.Common.{sym, ap, ◌∙◌, add-one, arith, length-set, drop_of_length-le, drop-cons, take-suc-set, drop-set-lt, append-nil, take_all}
use Rattle.std.proofs.lemmas.List.{set-get_or}
use Rattle.std.proofs.Math.Seq.{split_at, append_snoc}
use Rattle.std.specs.Option.{ok_or}
use Rattle.sheets.specs.declared.Value.{Value}
use Rattle.sheets.specs.declared.BadLine.{BadLine}
use Rattle.sheets.specs.Sheet.{entry_key}
use Rattle.sheets.specs.Lines.{stands, entry_at}
use Rattle.sheets.specs.Walk.{past_at, Lines, bad, exact_from, Filled, filled, entered, entries_from}

module _ (text l : List ℕ) (ls : List (List ℕ)) (n at : ℕ) {r : Option ℕ} {q : Lines} (e : r ≡ past_at text at l) (f : q ≡ ok_or r (record { 0 = n })) where
  asks : q ≡ cond (stands text at l) (Ok (at + length l)) (bad n)
  unfolding past_at
  asks = f ∙ rw e (by (stands text at l))
    where
      by : (d : Bool) → ok_or {E = BadLine} (cond d (Some (at + length l)) None) (record { 0 = n }) ≡ cond d (Ok (at + length l)) (bad n)
      by true = refl
      by false = refl

  -- where the first line stands, the others are looked for after it
  pub exact-ok : {p : ℕ} → q ≡ Ok p → exact_from text (l ∷ ls) n at ≡ exact_from text ls (n + 1) p
  unfolding exact_from
  exact-ok {p} g = by (stands text at l) (sym asks ∙ g)
    where
      by : (d : Bool) → cond d (Ok (at + length l)) (bad n) ≡ Ok p → cond d (exact_from text ls (n + 1) (at + length l)) (bad n) ≡ exact_from text ls (n + 1) p
      by true h = let s : at + length l ≡ p = cc in rw s
      by false h = absurd (let c : ◌≡◌ {A = ℕ} 0 1 = cc in omega arith)

  -- where it does not, it is refused
  pub exact-err : {b : BadLine} → q ≡ Err b → exact_from text (l ∷ ls) n at ≡ Err b
  unfolding exact_from
  exact-err {b} g = by (stands text at l) (sym asks ∙ g)
    where
      by : (d : Bool) → cond d (Ok (at + length l)) (bad n) ≡ Err b → cond d (exact_from text ls (n + 1) (at + length l)) (bad n) ≡ Err b
      by true h = absurd (let c : ◌≡◌ {A = ℕ} 0 1 = cc in omega arith)
      by false h = h

  -- the last line of all
  pub exact-last : ls ≡ [] → exact_from text (l ∷ ls) n at ≡ q
  unfolding exact_from
  exact-last g = rw g (sym asks)

-- values in front
abbrev pub behind : List ℕ → Filled → Filled
behind vs f = filled f.ends (vs ++ f.values)

-- the entries before i have been read, up to place
pub record Entering (text key : List ℕ) (first line at : ℕ) (old vs : List ℕ) (place i : ℕ) : Type 0 where
  pub size : length vs ≡ length old
  pub upto : i ≤ length vs
  pub same : entries_from text key first line at old ≡ behind (take i vs) (entries_from text key (first + i) (line + i) place (drop i vs))

module _ {text key : List ℕ} {first line at : ℕ} {old : List ℕ} where
  pub enter-begin : Entering text key first line at old old at 0
  enter-begin =
      let f : first + 0 ≡ first = omega arith in
      let l : line + 0 ≡ line = omega arith in
      record { size = refl; upto = omega arith; same = rw (f, l) }

  module _ {vs : List ℕ} {place i : ℕ} (w : Entering text key first line at old vs place i) where
    pub enter-end : length old ≤ i → filled (Ok place) vs ≡ entries_from text key first line at old
    unfolding entries_from
    enter-end h =
        let k : length vs ≤ i = omega (arith, w.size) in
        sym (w.same ∙ rw (drop_of_length-le vs k, take_all i vs k, append-nil vs))

    module _ (in_old : i < length old) where
      h : i < length vs
      h = omega (arith, w.size)

      asked : entries_from text key (first + i) (line + i) place (drop i vs)
          ≡ entered (line + i) (drop i vs) (entry_at text place (entry_key key (first + i))) (λ p. entries_from text key (first + i + 1) (line + i + 1) p (drop (suc i) vs))
      unfolding entries_from
      asked = rw (drop-cons vs i 0 h)

      pub enter-bad : entry_at text place (entry_key key (first + i)) ≡ None
          → filled (bad (line + i)) vs ≡ entries_from text key first line at old
      enter-bad e = sym (w.same ∙ rw (asked, e) (ap (filled (bad (line + i))) whole))
        where
          whole : take i vs ++ drop i vs ≡ vs
          whole = rw (drop-cons vs i 0 h) (sym (split_at vs i 0 h))

      pub enter-on : {v : Value} → entry_at text place (entry_key key (first + i)) ≡ Some v
          → Entering text key first line at old (slice_set vs i v.number) v.next (i + 1)
      enter-on {v} e =
          let f : first + (i + 1) ≡ first + i + 1 = omega arith in
          let l : line + (i + 1) ≡ line + i + 1 = omega arith in
          record {
            size = length-set vs i v.number ∙ w.size;
            upto = rw (length-set vs i v.number) (omega arith);
            same =
                w.same
                ∙ rw (asked, e, f, l, add-one i, take-suc-set vs i v.number h, drop-set-lt (suc i) vs i v.number (omega arith))
                (ap (filled _) (sym (append_snoc (take i vs) v.number _)));
          }

-- how entries are read, step by step
pub ruleset enter_steps = (set-get_or, enter-bad, enter-on, enter-end)
