-- Written rows: compared, shared, and what filling puts back. Assumes nothing.
use Rattle.std.proofs.lemmas.Bool.{eqb-false}
use Rattle.std.specs.Prelude.{◌≡◌, refl, ◌≢◌, ℕ, zero, suc, ◌+◌, ◌≤◌, ◌<◌, Bool, true, false, cond, eqb}
use Rattle.std.proofs.Common.{ap, sym, ◌∙◌, subst, true≢false, arith, eqb-true, eq-eqb, ltb-true}
use Rattle.std.proofs.Math.Decide.{dec_le, dec_lt}
use Rattle.tables.specs.Laws.Tests.{and-true}
use Rattle.cells.specs.Read.{Kind, action, goto}
use Rattle.packing.specs.Job.{Act, blank, shift, rule, Job, eq_act, is_blank}
use Rattle.packing.specs.Rows.{sign, kind_of, in_kind, row, same_upto, same_row, rep_from, rep, empty_upto, Plan, search, share, skip, plan}

abbrev pub or_else : Act → Act → Act
or_else blank d = d
or_else (shift t) d = shift t
or_else (rule r) d = rule r

-- the filled table
abbrev pub filled : Job → Kind → ℕ → ℕ → Act
filled J κ s a = or_else (J.entry s a) (sign J κ s a)

pub eq_act-true : (x y : Act) → eq_act x y ≡ true → x ≡ y
eq_act-true blank blank e = refl
eq_act-true blank (shift t) e = cc
eq_act-true blank (rule r) e = cc
eq_act-true (shift t) blank e = cc
eq_act-true (shift t) (shift u) e = ap shift (eqb-true t u e)
eq_act-true (shift t) (rule r) e = cc
eq_act-true (rule r) blank e = cc
eq_act-true (rule r) (shift t) e = cc
eq_act-true (rule r) (rule q) e = ap rule (eqb-true r q e)

pub eq_act-refl : (x : Act) → eq_act x x ≡ true
eq_act-refl blank = refl
eq_act-refl (shift t) = eq-eqb t t refl
eq_act-refl (rule r) = eq-eqb r r refl

-- what holds below n and at n holds below n + 1
pub below_suc {ℓ} : (X : ℕ → Type ℓ) (n : ℕ) → ((s : ℕ) → s < n → X s) → X n → (s : ℕ) → s < suc n → X s
below_suc X n f x s l = go (dec_lt s n)
  where
    go : Dec (s < n) → X s
    go (yes h) = f s h
    go (no h) = subst X (let q : n ≡ s = omega arith in q) x

pub same_at : (f g : ℕ → Act) (n : ℕ) → same_upto f g n ≡ true → (d : ℕ) → d < n → f d ≡ g d
same_at f g zero e d l = absurd (omega arith)
same_at f g (suc n) e d l =
    let b = and-true (same_upto f g n) e in below_suc (λ (d : ℕ). f d ≡ g d) n (same_at f g n b.0) (eq_act-true (f n) (g n) b.1) d l

pub same_of : (f g : ℕ → Act) (n : ℕ) → ((d : ℕ) → d < n → f d ≡ g d) → same_upto f g n ≡ true
same_of f g zero h = refl
same_of f g (suc n) h = rw (same_of f g n (λ d l. h d (omega arith)), h n (omega arith)) (eq_act-refl (g n))

-- the same written action row
abbrev pub Same : Job → ℕ → ℕ → Type 0
Same J r s = (a : ℕ) → a < J.terms → row J action r a ≡ row J action s a

pub same_row-true : (J : Job) (r s : ℕ) → same_row J r s ≡ true → Same J r s
unfolding same_row
same_row-true J r s e a l = same_at (row J action r) (row J action s) J.terms e a l

pub same_row-of : (J : Job) (r s : ℕ) → Same J r s → same_row J r s ≡ true
unfolding same_row
same_row-of J r s h = same_of (row J action r) (row J action s) J.terms h

pub record RepAt (J : Job) (s j r : ℕ) : Type 0 where
  pub from : j ≤ r
  pub to : r ≤ s
  pub same : Same J r s
  pub least : (i : ℕ) → j ≤ i → i < r → same_row J i s ≡ false

rep_from_lem : (J : Job) (s n j : ℕ) (b : Bool) → j + n ≡ s → same_row J j s ≡ b → RepAt J s j (rep_from J s n j b)
rep_from_lem J s zero j true e h = record { from = omega arith; to = omega arith; same = same_row-true J j s h; least = λ i x y. absurd (omega arith) }
rep_from_lem J s zero j false e h =
    record { from = omega arith; to = omega arith; same = let q : j ≡ s = omega arith in rw q (λ a l. refl); least = λ i x y. absurd (omega arith) }
rep_from_lem J s (suc n) j true e h = record { from = omega arith; to = omega arith; same = same_row-true J j s h; least = λ i x y. absurd (omega arith) }
rep_from_lem J s (suc n) j false e h =
    let i = rep_from_lem J s n (suc j) (same_row J (suc j) s) (omega arith) refl in
    record { from = let l = i.from in omega arith; to = i.to; same = i.same; least = λ k x y. go i.least k x y (dec_le (suc j) k) }
  where
    go : {r : ℕ} → ((k : ℕ) → suc j ≤ k → k < r → same_row J k s ≡ false) → (k : ℕ) → j ≤ k → k < r → Dec (suc j ≤ k) → same_row J k s ≡ false
    go f k x y (yes z) = f k z y
    go f k x y (no z) = let q : k ≡ j = omega arith in rw q h

pub rep_at : (J : Job) (s : ℕ) → RepAt J s 0 (rep J action s)
unfolding rep
rep_at J s = rep_from_lem J s s 0 (same_row J 0 s) (omega arith) refl

pub rep-idem : (J : Job) (κ : Kind) (s : ℕ) → rep J κ (rep J κ s) ≡ rep J κ s
rep-idem J goto s = unfold rep in refl
rep-idem J action s = go (dec_lt (rep J action (rep J action s)) (rep J action s))
  where
    p : RepAt J s 0 (rep J action s)
    p = rep_at J s

    q : RepAt J (rep J action s) 0 (rep J action (rep J action s))
    q = rep_at J (rep J action s)

    go : Dec (rep J action (rep J action s) < rep J action s) → rep J action (rep J action s) ≡ rep J action s
    go (yes l) =
        absurd (true≢false (sym (same_row-of J (rep J action (rep J action s)) s (λ a x. q.same a x ∙ p.same a x)) ∙ p.least (rep J action (rep J action s)) (omega arith) l))
    go (no l) = let t = q.to in omega arith

-- ---- empty rows

blank_of : (e : Act) → is_blank e ≡ true → e ≡ blank
blank_of blank h = refl
blank_of (shift t) h = cc
blank_of (rule r) h = cc

pub empty-at : (f : ℕ → Act) (n : ℕ) → empty_upto f n ≡ true → (d : ℕ) → d < n → f d ≡ blank
empty-at f zero e d l = absurd (omega arith)
empty-at f (suc n) e d l =
    let b = and-true (empty_upto f n) e in below_suc (λ (d : ℕ). f d ≡ blank) n (empty-at f n b.0) (blank_of (f n) b.1) d l

-- ---- kinds, entries, filling

abbrev pub kind_b : Kind → Bool
kind_b action = true
kind_b goto = false

pub in_kind_lem : (k : Kind) (b : Bool) (e : Act) → in_kind k b e ≢ blank → b ≡ kind_b k
in_kind_lem action true e w = refl
in_kind_lem action false e w = absurd (w refl)
in_kind_lem goto true e w = absurd (w refl)
in_kind_lem goto false e w = refl

in-kind-is : (k : Kind) (b : Bool) (e : Act) → b ≡ kind_b k → in_kind k b e ≡ e
in-kind-is action true e h = refl
in-kind-is action false e h = cc
in-kind-is goto true e h = cc
in-kind-is goto false e h = refl

pub row-kind : (J : Job) (k : Kind) (s a : ℕ) → row J k s a ≢ blank → kind_of J a ≡ kind_b k
unfolding row
row-kind J k s a w = in_kind_lem k (kind_of J a) (cond (eq_act (J.entry s a) (sign J k s a)) blank (J.entry s a)) w

pub kind-one : (k l : Kind) → kind_b k ≡ kind_b l → k ≡ l
kind-one action action e = refl
kind-one action goto e = cc
kind-one goto action e = cc
kind-one goto goto e = refl

pub row_is : (J : Job) (k : Kind) (s a : ℕ) → kind_of J a ≡ kind_b k → row J k s a ≡ cond (eq_act (J.entry s a) (sign J k s a)) blank (J.entry s a)
unfolding row
row_is J k s a h = in-kind-is k (kind_of J a) (cond (eq_act (J.entry s a) (sign J k s a)) blank (J.entry s a)) h

-- a written entry is the table's
pub row-entry : (J : Job) (k : Kind) (s a : ℕ) → row J k s a ≢ blank → J.entry s a ≡ row J k s a
row-entry J k s a w = go (eq_act (J.entry s a) (sign J k s a)) (row_is J k s a (row-kind J k s a w))
  where
    go : (b : Bool) → row J k s a ≡ cond b blank (J.entry s a) → J.entry s a ≡ row J k s a
    go true e = absurd (w e)
    go false e = sym e

or_self : (d : Act) → or_else d d ≡ d
or_self blank = refl
or_self (shift t) = refl
or_self (rule r) = refl

pub filled_row : (J : Job) (k : Kind) (s a : ℕ) → kind_of J a ≡ kind_b k → filled J k s a ≡ or_else (row J k s a) (sign J k s a)
filled_row J k s a h = go (eq_act (J.entry s a) (sign J k s a)) refl (row_is J k s a h)
  where
    go : (b : Bool) → eq_act (J.entry s a) (sign J k s a) ≡ b → row J k s a ≡ cond b blank (J.entry s a) → filled J k s a ≡ or_else (row J k s a) (sign J k s a)
    go true e i = rw (i, eq_act-true (J.entry s a) (sign J k s a) e) (or_self (sign J k s a))
    go false e i = rw i refl

pub goto-rep : (J : Job) (s : ℕ) → rep J goto s ≡ s
unfolding rep
goto-rep J s = refl

-- rows with one representative are equal
pub rep-row : (J : Job) (k : Kind) (q r a : ℕ) → rep J k q ≡ rep J k r → kind_of J a ≡ kind_b k → row J k q a ≡ row J k r a
rep-row J action q r a e h =
    let l = ltb-true a J.terms h in
    sym ((rep_at J q).same a l) ∙ ap (λ (s : ℕ). row J action s a) e ∙ (rep_at J r).same a l
rep-row J goto q r a e h = ap (λ (s : ℕ). row J goto s a) (sym (goto-rep J q) ∙ e ∙ goto-rep J r)

-- ---- plans

abbrev Plan≢ : Plan → ℕ
Plan≢ search = 0
Plan≢ (share r) = 1
Plan≢ skip = 2

pub plan-search : (J : Job) (k : Kind) (s : ℕ) → plan J k s ≡ search → rep J k s ≡ s
plan-search J goto s e = goto-rep J s
plan-search J action s e = unfold plan in go (eqb (rep J action s) s) refl e
  where
    go : (b : Bool) → eqb (rep J action s) s ≡ b → cond b search (share (rep J action s)) ≡ search → rep J action s ≡ s
    go true i h = eqb-true (rep J action s) s i
    go false i h = absurd (let z : ◌≡◌ {A = ℕ} 1 0 = ap Plan≢ h in omega arith)

pub record Shares (J : Job) (k : Kind) (s r : ℕ) : Type 0 where
  pub is : r ≡ rep J k s
  pub earlier : r < s
  pub searched : plan J k r ≡ search

pub plan-share : (J : Job) (k : Kind) (s r : ℕ) → plan J k s ≡ share r → Shares J k s r
unfolding plan
plan-share J action s r e = go (eqb (rep J action s) s) refl e
  where
    go : (b : Bool) → eqb (rep J action s) s ≡ b → cond b search (share (rep J action s)) ≡ share r → Shares J action s r
    go true i h = absurd (let z : ◌≡◌ {A = ℕ} 0 1 = ap Plan≢ h in omega arith)
    go false i h =
        let q : rep J action s ≡ r = cc in
        let l = (rep_at J s).to in
        let n = eqb-false (rep J action s) s i in
        record {
          is = sym q;
          earlier = below (dec_lt r s) (rw q at l) (λ z. n (q ∙ z));
          searched = rw (eq-eqb (rep J action r) r (rw (← q) (rep-idem J action s))) refl;
        }
      where
        below : Dec (r < s) → r ≤ s → (r ≡ s → ⊥) → r < s
        below (yes z) l n = z
        below (no z) l n = absurd (n (omega arith))
plan-share J goto s r e = go (empty_upto (row J goto s) J.syms) e
  where
    go : (b : Bool) → cond b skip search ≡ share r → Shares J goto s r
    go true h = absurd (let z : ◌≡◌ {A = ℕ} 2 1 = ap Plan≢ h in omega arith)
    go false h = absurd (let z : ◌≡◌ {A = ℕ} 0 1 = ap Plan≢ h in omega arith)

pub plan-skip : (J : Job) (k : Kind) (s : ℕ) → plan J k s ≡ skip → (a : ℕ) → a < J.syms → row J k s a ≡ blank
unfolding plan
plan-skip J action s e = go (eqb (rep J action s) s) e
  where
    go : (b : Bool) → cond b search (share (rep J action s)) ≡ skip → (a : ℕ) → a < J.syms → row J action s a ≡ blank
    go true h a l = absurd (let z : ◌≡◌ {A = ℕ} 0 2 = ap Plan≢ h in omega arith)
    go false h a l = absurd (let z : ◌≡◌ {A = ℕ} 1 2 = ap Plan≢ h in omega arith)
plan-skip J goto s e = go (empty_upto (row J goto s) J.syms) refl e
  where
    go : (b : Bool) → empty_upto (row J goto s) J.syms ≡ b → cond b skip search ≡ skip → (a : ℕ) → a < J.syms → row J goto s a ≡ blank
    go true i h a l = empty-at (row J goto s) J.syms i a l
    go false i h a l = absurd (let z : ◌≡◌ {A = ℕ} 0 2 = ap Plan≢ h in omega arith)

pub plan-action : (J : Job) (s : ℕ) → plan J action s ≡ skip → ⊥
unfolding plan
plan-action J s e = go (eqb (rep J action s) s) e
  where
    go : (b : Bool) → cond b search (share (rep J action s)) ≡ skip → ⊥
    go true h = let z : ◌≡◌ {A = ℕ} 0 2 = ap Plan≢ h in omega arith
    go false h = let z : ◌≡◌ {A = ℕ} 1 2 = ap Plan≢ h in omega arith
