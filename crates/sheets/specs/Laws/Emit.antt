-- Bytes put one after the other are put as one run of bytes. Assumes nothing.
use Rattle.std.specs.Prelude.{◌≡◌, refl, List, [], ◌∷◌, ◌++◌, ℕ, suc, ◌+◌, ◌-◌, ◌^◌, ◌≤◌, ◌<◌, length, get_or, set, drop}
use Rattle.std.proofs.Common.{sym, ap, ◌∙◌, length-append, drop_of_length-le, drop-cons, add-one, arith}
use Rattle.std.proofs.lemmas.List.Edits.{sets}
use Rattle.std.proofs.Math.Seq.{length-sets}
use Rattle.sheets.specs.Sheet.{value, line, entry_key, entries, joined}
use Rattle.sheets.specs.Emit.{Room, Emitted}

sets-append : (l : List ℕ) (at : ℕ) (s t : List ℕ) → sets l at (s ++ t) ≡ sets (sets l at s) (at + length s) t
sets-append l at [] t = let e : at + 0 ≡ at = omega arith in rw e
sets-append l at (b ∷ s) t = let e : at + suc (length s) ≡ suc at + length s = omega arith in rw e (sets-append (set l at b) (suc at) s t)

-- nothing is put
pub nothing : (l : List ℕ) (at : ℕ) → Emitted l at [] at l
nothing l at = record { place = omega arith; stored = refl }

-- what comes next goes on where this ended
pub then : {before middle after : List ℕ} {at place to : ℕ} {s t : List ℕ} → Emitted before at s place middle → Emitted middle place t to after
    → Emitted before at (s ++ t) to after
then {before} {middle} {after} {at} {place} {to} {s} {t} e f =
    record {
      place = let p : place ≡ at + length s = e.place in let q : to ≡ place + length t = f.place in omega (arith, length-append s t);
      stored = f.stored ∙ rw (e.stored, e.place) (sym (sets-append before at s t));
    }

-- there is room for the first part of what there is room for, and for the next part after it
pub room-first : {at : ℕ} {s : List ℕ} (t : List ℕ) → Room at (s ++ t) → Room at s
room-first {at} {s} t r = record { fits = let f : at + length (s ++ t) < 2 ^ 64 = r.fits in omega (arith, length-append s t) }

pub room_next : {before middle : List ℕ} {at place : ℕ} {s t : List ℕ} → Emitted before at s place middle → Room at (s ++ t) → Room place t
room_next {at = at} {place = place} {s = s} {t = t} e r =
    record { fits = let f : at + length (s ++ t) < 2 ^ 64 = r.fits in let p : place ≡ at + length s = e.place in omega (arith, length-append s t) }

-- ---- a walk that puts bytes

-- to put the rest now comes to the same as to put the whole before
pub record Left (before : List ℕ) (at : ℕ) (whole : List ℕ) (buffer : List ℕ) (here : ℕ) (rest : List ℕ) : Type 0 where
  pub place : at + length whole ≡ here + length rest
  pub stored : sets before at whole ≡ sets buffer here rest

module _ {before : List ℕ} {at : ℕ} {whole : List ℕ} where
  pub left-begin : Left before at whole before at whole
  left-begin = record { place = refl; stored = refl }

  module _ {buffer : List ℕ} {here : ℕ} where
    pub left-on : {after : List ℕ} {to : ℕ} (s t : List ℕ) {rest : List ℕ} → rest ≡ s ++ t → Left before at whole buffer here rest → Emitted buffer here s to after
        → Left before at whole after to t
    left-on {after} {to} s t e l f =
        record {
          place = let p : to ≡ here + length s = f.place in l.place ∙ ap (λ (r : List ℕ). here + length r) e ∙ ap (λ (n : ℕ). here + n) (length-append s t) ∙ (let q : here + (length s + length t) ≡ to + length t = omega arith in q);
          stored = l.stored ∙ ap (sets buffer here) e ∙ sets-append buffer here s t ∙ rw (f.stored, f.place);
        }

    pub left_end : Left before at whole buffer here [] → Emitted before at whole here buffer
    left_end l = record { place = omega (arith, l.place); stored = sym l.stored }

    -- there is room for what is left
    pub left-room : {rest : List ℕ} → Left before at whole buffer here rest → Room at whole → Room here rest
    left-room l r = record { fits = omega (arith, l.place, r.fits) }

    -- a store changes no length
    pub left-length : {rest : List ℕ} → Left before at whole buffer here rest → length buffer ≡ length before
    left-length {rest} l = sym (length-sets buffer here rest) ∙ sym (ap length l.stored) ∙ length-sets before at whole

-- ---- entry by entry

module _ (key : List ℕ) (first : ℕ) (vs : List ℕ) where
  -- the text of all entries, and of those from the i-th on
  abbrev pub all_lines : List ℕ
  all_lines = joined (entries key first vs)

  abbrev pub lines_after : ℕ → List ℕ
  lines_after i = joined (entries key (first + i) (drop i vs))

  abbrev pub line_at : ℕ → List ℕ
  line_at i = line (entry_key key (first + i)) (value (get_or vs i 0))

  next-line : (i : ℕ) → i < length vs → lines_after i ≡ line_at i ++ lines_after (i + 1)
  unfolding joined entries
  next-line i h =
      let e : first + i + 1 ≡ first + (i + 1) = omega arith in
      rw (drop-cons vs i 0 h, e, add-one i)

  no_line : (i : ℕ) → length vs ≤ i → lines_after i ≡ []
  unfolding joined entries
  no_line i h = rw (drop_of_length-le vs h)

  module _ {before : List ℕ} {at : ℕ} where
    pub entry-begin : Left before at all_lines before at (lines_after 0)
    entry-begin = let e : first + 0 ≡ first = omega arith in rw e left-begin

    module _ {buffer : List ℕ} {here : ℕ} (i : ℕ) (l : Left before at all_lines buffer here (lines_after i)) where
      pub entry-room : i < length vs → Room at all_lines → Room here (line_at i)
      entry-room h r = room-first (lines_after (i + 1)) (rw (next-line i h) at (left-room l r))

      pub entry-on : {after : List ℕ} {to : ℕ} → i < length vs → Emitted buffer here (line_at i) to after → Left before at all_lines after to (lines_after (i + 1))
      entry-on h e = left-on (line_at i) (lines_after (i + 1)) (next-line i h) l e

      pub entry-end : length vs ≤ i → Emitted before at all_lines here buffer
      entry-end h = left_end (rw (no_line i h) at l)

-- how entries are put, step by step
pub ruleset entries_steps = (entry-begin, entry-room, entry-on, entry-end)
