-- What placement leaves in the arrays: small numbers, and as many marks as there were. Assumes nothing.
use Rattle.std.specs.Prelude.{◌≡◌, refl, Bool, cond, not, ◌&&◌, ℕ, zero, suc, ◌+◌, ◌-◌, ◌*◌, ◌≤◌, ◌<◌, eqb, ℤ, pos, negsuc, length, get_or, set, true, false}
use Rattle.std.proofs.Common.{◌∙◌, arith, length-set}
use Rattle.std.proofs.Math.Option.{Option, none, some}
use Rattle.std.proofs.Math.ListN.{length-replicate}
use Rattle.cells.specs.Read.{Kind, action, goto}
use Rattle.packing.specs.Job.{Act, blank, shift, rule, Job, neg, sign_check}
use Rattle.packing.specs.Rows.{row, Plan, search, share, skip, plan}
use Rattle.packing.specs.Bench.{Bench, put_b, settle_b, write_b, fill_b, base_b, inside, no_cell_b, base_of_b, needs_upto, try_b, first_b, nat_of, place_b, row_by_b, row_b, bind_b, house_b, free2_b, home_b, state_b, states_b, target_b, targets_b, blank_b, placement_b}
use Rattle.packing.specs.Laws.Everywhere.{everywhere-set, everywhere-same}

-- how large a number is, whatever its sign
abbrev pub size : ℤ → ℕ
size (pos n) = n
size (negsuc n) = suc n

size-neg : (n : ℕ) → size (neg n) ≡ n
size-neg zero = refl
size-neg (suc n) = refl

natural-low : (v : ℤ) → nat_of v ≤ size v
natural-low (pos n) = omega arith
natural-low (negsuc n) = omega arith

-- the numbers in Base and Check are at most N, a pointer to any place is, and there are W marks
pub record Stored (N W rules : ℕ) (B : Bench) : Type 0 where
  pub bases : (c : ℕ) → size (get_or B.bases c (pos 0)) ≤ N
  pub checks : (c : ℕ) → size (get_or B.checks c (pos 0)) ≤ N
  pub places : (t : ℕ) → rules + get_or B.places t 0 ≤ N
  pub marks : length B.marks ≡ W

-- the same of a step that had room
abbrev pub StoredIf : ℕ → ℕ → ℕ → Option Bench → Type 0
StoredIf N W rules none = Unit {0}
StoredIf N W rules (some B) = Stored N W rules B

-- N is above every base and place that a search tries, and above every rule of the table and the signing
pub record Bounds (J : Job) (fuel N : ℕ) : Type 0 where
  pub searched : 1 + fuel + 2 * J.syms + J.rules ≤ N
  pub written : (κ : Kind) (s a r : ℕ) → row J κ s a ≡ rule r → r ≤ N
  pub signed : (s : ℕ) → J.ssig s ≤ N
  pub targets : (A : ℕ) → J.off A ≤ 2 * A

module _ (J : Job) (W fuel N : ℕ) (b : Bounds J fuel N) where
  -- the same, for this job
  abbrev StoredB : Bench → Type 0
  StoredB B = Stored N W J.rules B

  abbrev StoredO : Option Bench → Type 0
  StoredO o = StoredIf N W J.rules o

  symbols-low : J.syms ≤ N
  symbols-low = omega (arith, b.searched)

  sign_low : (n : ℕ) → n ≤ N → size (sign_check J n) ≤ N
  sign_low zero h = symbols-low
  sign_low (suc r) h = h

  -- ---- stores

  put_low : (c : ℕ) (v k : ℤ) (B : Bench) → size v ≤ N → size k ≤ N → StoredB B → StoredB (put_b c v k B)
  put_low c v k B h g l =
      record {
        bases = everywhere-set (λ x. size x ≤ N) B.bases c v (pos 0) h l.bases;
        checks = everywhere-set (λ x. size x ≤ N) B.checks c k (pos 0) g l.checks;
        places = l.places;
        marks = length-set B.marks c 1 ∙ l.marks;
      }

  settle-low : (t c : ℕ) (k : ℤ) (B : Bench) → J.rules + c ≤ N → size k ≤ N → StoredB B → StoredB (settle_b J t c k B)
  settle-low t c k B h g l =
      record {
        bases = l.bases;
        checks = everywhere-set (λ x. size x ≤ N) (set B.checks c k) (suc c) (sign_check J (J.ssig t)) (pos 0) (sign_low (J.ssig t) (b.signed t)) (everywhere-set (λ x. size x ≤ N) B.checks c k (pos 0) g l.checks);
        places = everywhere-set (λ x. J.rules + x ≤ N) B.places t c 0 h l.places;
        marks = length-set (set B.marks c 1) (suc c) 1 ∙ length-set B.marks c 1 ∙ l.marks;
      }

  write_low : (a c : ℕ) (e : Act) (B : Bench) → ((r : ℕ) → e ≡ rule r → r ≤ N) → J.rules + c ≤ N → a ≤ N → StoredB B → StoredB (write_b J a c e B)
  write_low a c blank B g h k l = l
  write_low a c (rule r) B g h k l = put_low c (neg r) (pos a) B (rw (size-neg r) (g r refl)) k l
  write_low a c (shift t) B g h k l = by (eqb (get_or B.places t 0) 0)
    where
      by : (q : Bool) → StoredB (cond q (settle_b J t c (pos a) B) (put_b c (neg (J.rules + get_or B.places t 0)) (pos a) B))
      by true = settle-low t c (pos a) B h k l
      by false = put_low c (neg (J.rules + get_or B.places t 0)) (pos a) B (rw (size-neg (J.rules + get_or B.places t 0)) (l.places t)) k l

  fill-low : (κ : Kind) (s at n : ℕ) (B : Bench) → n ≤ J.syms → J.rules + at + 2 * J.syms ≤ N → StoredB B → StoredB (fill_b J κ s at n B)
  fill-low κ s at zero B h g l = l
  fill-low κ s at (suc a) B h g l =
      write_low a (at + 2 * a) (row J κ s a) (fill_b J κ s at a B) (b.written κ s a) (omega arith) (omega (arith, symbols-low)) (fill-low κ s at a B (omega arith) g l)

  base-low : (κ : Kind) (s at : ℕ) (B : Bench) → at ≤ N → StoredB B → StoredB (base_b κ s at B)
  base-low action s at B h l =
      record { bases = everywhere-set (λ x. size x ≤ N) B.bases (get_or B.places s 0) (pos at) (pos 0) h l.bases; checks = l.checks; places = l.places; marks = l.marks }
  base-low goto s at B h l =
      record { bases = everywhere-set (λ x. size x ≤ N) B.bases (suc (get_or B.places s 0)) (pos at) (pos 0) h l.bases; checks = l.checks; places = l.places; marks = l.marks }

  -- ---- searches

  first-low : (f : ℕ → Bool) (n at : ℕ) (q : Bool) → first_b f n at q ≤ at + n
  first-low f zero at true = omega arith
  first-low f zero at false = omega arith
  first-low f (suc n) at true = omega arith
  first-low f (suc n) at false = omega (arith, first-low f n (suc at) (f (suc at)))

  shared-low : (κ : Kind) (B : Bench) (r : ℕ) → StoredB B → nat_of (base_of_b κ B r) ≤ N
  shared-low action B r l = omega (arith, natural-low (base_of_b action B r), l.bases (get_or B.places r 0))
  shared-low goto B r l = omega (arith, natural-low (base_of_b goto B r), l.bases (suc (get_or B.places r 0)))

  place-low : (κ : Kind) (s at : ℕ) (B : Bench) → at ≤ 1 + fuel → StoredB B → StoredO (place_b J W κ s B at)
  place-low κ s at B h l = by (needs_upto (inside W) (no_cell_b B) (row J κ s) at J.syms)
    where
      by : (q : Bool) → StoredO (cond q (some (fill_b J κ s at J.syms (base_b κ s at B))) none)
      by true = fill-low κ s at J.syms (base_b κ s at B) (omega arith) (omega (arith, b.searched)) (base-low κ s at B (omega (arith, b.searched)) l)
      by false = tt

  row-by-low : (p : Plan) (κ : Kind) (s : ℕ) (B : Bench) → StoredB B → StoredO (row_by_b p J W fuel κ s B)
  row-by-low skip κ s B l = l
  row-by-low (share r) κ s B l = base-low κ s (nat_of (base_of_b κ B r)) B (shared-low κ B r l) l
  row-by-low search κ s B l = place-low κ s (first_b (try_b J κ s B) fuel 1 (try_b J κ s B 1)) B (first-low (try_b J κ s B) fuel 1 (try_b J κ s B 1)) l

  row_low : (κ : Kind) (s : ℕ) (B : Bench) → StoredB B → StoredO (row_b J W fuel κ s B)
  unfolding row_b
  row_low κ s B l = row-by-low (plan J κ s) κ s B l

  -- ---- turns

  then-low : (o : Option Bench) (f : Bench → Option Bench) → StoredO o → ((B : Bench) → StoredB B → StoredO (f B)) → StoredO (bind_b o f)
  then-low none f l g = tt
  then-low (some B) f l g = g B l

  house-low : (t c : ℕ) (k : ℤ) (B : Bench) → J.rules + c ≤ N → size k ≤ N → StoredB B → StoredO (house_b J W t c k B)
  unfolding house_b
  house-low t c k B h g l = by (inside W c && inside W (suc c))
    where
      by : (q : Bool) → StoredO (cond q (some (settle_b J t c k B)) none)
      by true = settle-low t c k B h g l
      by false = tt

  home-low : (s : ℕ) (B : Bench) → StoredB B → StoredO (home_b J W fuel s B)
  unfolding home_b
  home-low s B l = by (not (eqb s 0) && no_cell_b B s)
    where
      by : (q : Bool) → StoredO (cond q (house_b J W s (first_b (free2_b B) fuel 1 (free2_b B 1)) (pos J.syms) B) (some B))
      by true =
          house-low s (first_b (free2_b B) fuel 1 (free2_b B 1)) (pos J.syms) B (omega (arith, b.searched, first-low (free2_b B) fuel 1 (free2_b B 1))) symbols-low l
      by false = l

  state-low : (s : ℕ) (B : Bench) → StoredB B → StoredO (state_b J W fuel s B)
  unfolding state_b
  state-low s B l =
      then-low (home_b J W fuel s B) (λ C. bind_b (row_b J W fuel action s C) (row_b J W fuel goto s)) (home-low s B l)
      (λ C m. then-low (row_b J W fuel action s C) (row_b J W fuel goto s) (row_low action s C m) (row_low goto s))

  states-low : (n : ℕ) (B : Bench) → StoredB B → StoredO (states_b J W fuel n B)
  states-low zero B l = l
  states-low (suc s) B l = then-low (states_b J W fuel s B) (state_b J W fuel s) (states-low s B l) (state-low s)

  target-low : (A t : ℕ) (B : Bench) → A < J.syms → StoredB B → StoredO (target_b J W A t B)
  target-low A zero B h l = l
  target-low A (suc t) B h l = house-low (suc t) (J.off A) (pos A) B (omega (arith, b.searched, b.targets A)) (omega (arith, symbols-low)) l

  targets-low : (n : ℕ) (B : Bench) → J.terms + n ≤ J.syms → StoredB B → StoredO (targets_b J W n B)
  targets-low zero B h l = l
  targets-low (suc n) B h l =
      then-low (targets_b J W n B) (target_b J W (J.terms + n) (J.gsig (J.terms + n))) (targets-low n B (omega arith) l)
      (λ C m. target-low (J.terms + n) (J.gsig (J.terms + n)) C (omega arith) m)

  blank-low : StoredB (blank_b J W)
  unfolding blank_b
  blank-low =
      record {
        bases = everywhere-same (λ x. size x ≤ N) W (pos 0) (pos 0) (omega arith) (omega arith);
        checks = everywhere-same (λ x. size x ≤ N) W (pos J.syms) (pos 0) symbols-low (omega arith);
        places = everywhere-same (λ x. J.rules + x ≤ N) J.states 0 0 (omega (arith, b.searched)) (omega (arith, b.searched));
        marks = length-replicate W 0;
      }

  pub placement-low : J.terms ≤ J.syms → StoredO (placement_b J W fuel)
  unfolding placement_b
  placement-low h =
      then-low (house_b J W 0 0 (pos J.syms) (blank_b J W)) (λ B. bind_b (targets_b J W (J.syms - J.terms) B) (states_b J W fuel J.states))
      (house-low 0 0 (pos J.syms) (blank_b J W) (omega (arith, b.searched)) symbols-low blank-low)
      (λ B l. then-low (targets_b J W (J.syms - J.terms) B) (states_b J W fuel J.states) (targets-low (J.syms - J.terms) B (omega arith) l) (states-low J.states))
