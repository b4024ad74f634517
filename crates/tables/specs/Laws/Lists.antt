-- Laws of all, the sum and among. Assumes nothing.
use Rattle.std.specs.Prelude.{◌≡◌, Bool, true, false, ◌||◌, eqb, length, get_or, take, List, [], ◌∷◌, ℕ, zero, suc, ◌+◌, ◌*◌, ◌≤◌, ◌<◌, sum as total}
use Rattle.std.proofs.Math.Path.{refl}
use Rattle.std.proofs.lemmas.List.Sums.{sum_by-cons}
use Rattle.std.proofs.Common.{sym, ap, ◌∙◌, mul-suc, arith, length-take-le, get_or-take, ne_eqb}
use Rattle.std.proofs.Math.Bool.{or-false, or_assoc}
use Rattle.std.proofs.lemmas.Bool.{eqb-false}
use Rattle.tables.specs.Laws.Tests.{clash, and-true, and-false}
use Rattle.std.specs.List.{list_all}
use Rattle.tables.specs.Lists.{all, sum, among}

-- ---- all

module _ (f : ℕ → Bool) where
  pub all_in : (l : List ℕ) → ((i : ℕ) → i < length l → f (get_or l i 0) ≡ true) → all f l ≡ true
  unfolding all
  all_in [] h = refl
  all_in (x ∷ l) h = rw (h 0 (omega arith)) (all_in l (λ i k. h (suc i) (omega arith)))

  pub all-out : (l : List ℕ) (i : ℕ) → i < length l → f (get_or l i 0) ≡ false → all f l ≡ false
  unfolding all
  all-out [] i k h = absurd (omega arith)
  all-out (x ∷ l) zero k h = rw h
  all-out (x ∷ l) (suc i) k h = and-false (f x) (all-out l i (omega arith) h)

  pub all-at : (l : List ℕ) → all f l ≡ true → (i : ℕ) → i < length l → f (get_or l i 0) ≡ true
  unfolding all
  all-at [] h i k = absurd (omega arith)
  all-at (x ∷ l) h zero k = (and-true (f x) h).0
  all-at (x ∷ l) h (suc i) k = all-at l (and-true (f x) h).1 i (omega arith)

-- it is the library's word
pub all_is : (f g : ℕ → Bool) → ((x : ℕ) → f x ≡ g x) → (l : List ℕ) → list_all f l ≡ all g l
unfolding all
all_is f g e [] = refl
all_is f g e (x ∷ l) = rw (e x, all_is f g e l)

-- ---- the sum

-- it is the library's word
pub sum_is : (l : List ℕ) → total l ≡ sum l
unfolding sum
sum_is [] = refl
sum_is (x ∷ l) = sum_by-cons (λ n. n) x l ∙ ap (λ k. x + k) (sum_is l)

pub sum_more : (l : List ℕ) (i : ℕ) → i < length l → sum (take (suc i) l) ≡ sum (take i l) + get_or l i 0
unfolding sum
sum_more [] i h = absurd (omega arith)
sum_more (x ∷ l) zero h = omega arith
sum_more (x ∷ l) (suc i) h = rw (sum_more l i (omega arith)) (omega arith)

pub sum-part : (l : List ℕ) (i : ℕ) → sum (take i l) ≤ sum l
unfolding sum
sum-part [] zero = omega arith
sum-part [] (suc i) = omega arith
sum-part (x ∷ l) zero = omega arith
sum-part (x ∷ l) (suc i) = omega (arith, sum-part l i)

pub sum_bound : {b : ℕ} (l : List ℕ) → ((i : ℕ) → i < length l → get_or l i 0 ≤ b) → sum l ≤ b * length l
unfolding sum
sum_bound [] h = omega arith
sum_bound {b} (x ∷ l) h =
    let e : b * suc (length l) ≡ b + b * length l = omega (arith, mul-suc b (length l)) in
    omega (arith, e, h 0 (omega arith), sum_bound l (λ i k. h (suc i) (omega arith)))

-- ---- among

pub among_none : (x : ℕ) (l : List ℕ) → among x (take 0 l) ≡ false
unfolding among
among_none x l = refl

pub among-more : (x : ℕ) (l : List ℕ) (i : ℕ) → i < length l → among x (take (suc i) l) ≡ (among x (take i l) || eqb x (get_or l i 0))
unfolding among
among-more x [] i h = absurd (omega arith)
among-more x (y ∷ l) zero h = or-false (eqb x y)
among-more x (y ∷ l) (suc i) h = rw (among-more x l i (omega arith)) (sym (or_assoc (eqb x y) (among x (take i l)) (eqb x (get_or l i 0))))

or_parts : (b : Bool) {d : Bool} → (b || d) ≡ false → (b ≡ false) × (d ≡ false)
or_parts true h = absurd (clash refl h)
or_parts false h = (refl, h)

-- the element at i is not among those before it
pub not-among-of : (x : ℕ) (l : List ℕ) → among x l ≡ false → (k : ℕ) → k < length l → get_or l k 0 ≡ x → ⊥
unfolding among
not-among-of x [] e k h q = omega arith
not-among-of x (y ∷ l) e zero h q = eqb-false x y (or_parts (eqb x y) e).0 (sym q)
not-among-of x (y ∷ l) e (suc k) h q = not-among-of x l (or_parts (eqb x y) e).1 k (omega arith) q

pub among-none-of : (x : ℕ) (l : List ℕ) → ((k : ℕ) → k < length l → get_or l k 0 ≡ x → ⊥) → among x l ≡ false
unfolding among
among-none-of x [] n = refl
among-none-of x (y ∷ l) n = rw (ne_eqb x y (λ q. n 0 (omega arith) (sym q))) (among-none-of x l (λ k h. n (suc k) (omega arith)))

module _ (l : List ℕ) (i : ℕ) (h : i < length l) where
  pub not-among : among (get_or l i 0) (take i l) ≡ false → (k : ℕ) → k < i → get_or l k 0 ≡ get_or l i 0 → ⊥
  not-among e k m q =
      not-among-of (get_or l i 0) (take i l) e k (let s : length (take i l) ≡ i = length-take-le i l (omega arith) in omega arith) (get_or-take i l k 0 m ∙ q)

  pub among-at : ((k : ℕ) → k < i → get_or l k 0 ≡ get_or l i 0 → ⊥) → among (get_or l i 0) (take i l) ≡ false
  among-at n =
      among-none-of (get_or l i 0) (take i l) (λ k m q.
      let s : length (take i l) ≡ i = length-take-le i l (omega arith) in
      let b : k < i = omega arith in
      n k b (sym (get_or-take i l k 0 b) ∙ q))
