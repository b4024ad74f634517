-- The test of a base, on the board before the row is placed: it passes exactly where placing the row succeeds. Assumes nothing.
use Rattle.std.specs.Prelude.{◌≡◌, refl, ℕ, zero, suc, ◌+◌, ◌*◌, ◌≤◌, Bool, true, false, not, cond, ◌&&◌, ◌||◌, eqb}
use Rattle.std.proofs.Common.{sym, ◌∙◌, subst, arith, eqb-true}
use Rattle.std.proofs.Math.Option.{Option, none, some}
use Rattle.std.proofs.lemmas.Bool.{eqb-false}
use Rattle.cells.specs.Read.{Kind}
use Rattle.std.proofs.Math.Bool as bool
use Rattle.packing.specs.Job.{Act, blank, shift, rule, Job, is_shift_to}
use Rattle.packing.specs.Rows.{row}
use Rattle.packing.specs.Board.{Owner, att, ent, St, is_free, upd, put, house, set_base, guard, bind, plain, settle, toward, write, fill, used, try_of, try_row}
use Rattle.packing.specs.Bench.{seen, needs, needs_upto}
use Rattle.packing.specs.Laws.Grow.{upd_same, upd_other}
use Rattle.packing.specs.Laws.Tied.{through}

-- a state has no cell
abbrev pub homeless : Option ℕ → Bool
homeless none = true
homeless (some x) = false

abbrev pub free_in : St → ℕ → Bool
free_in P c = is_free (P.owner c)

abbrev pub no_cell : St → ℕ → Bool
no_cell P t = homeless (P.place t)

-- the cells that the columns below n need are free
abbrev pub fits_upto : St → (ℕ → Act) → ℕ → ℕ → Bool
fits_upto P f b n = needs_upto (free_in P) (no_cell P) f b n

abbrev pub done : Option St → Bool
done none = false
done (some P) = true

-- R is P after the columns below a
pub record Rel (P R : St) (f : ℕ → Act) (b a : ℕ) : Type 0 where
  pub far : (d : ℕ) → b + 2 * a ≤ d → R.owner d ≡ P.owner d
  pub homes : (t : ℕ) → no_cell R t ≡ (no_cell P t && not (seen f t a))

pub done-guard : (t : Bool) (Q : St) → done (guard t Q) ≡ t
done-guard true Q = refl
done-guard false Q = refl

and-cond : (x y : Bool) → (x && cond false y true) ≡ x
and-cond true y = refl
and-cond false y = refl

toward-fits : (P R : St) (f : ℕ → Act) (b a : ℕ) (o : Owner) (t : ℕ) (x : Option ℕ) → Rel P R f b a → homeless x ≡ (no_cell P t && not (seen f t a))
    → done (toward o t (b + 2 * a) x R) ≡ needs (free_in P) (no_cell P) f b a (shift t)
unfolding plain settle
toward-fits P R f b a o t none r e =
    rw (← e, r.far (b + 2 * a) (omega arith), r.far (suc (b + 2 * a)) (omega arith))
    (done-guard (is_free (P.owner (b + 2 * a)) && is_free (P.owner (suc (b + 2 * a)))) (house t (b + 2 * a) (put (suc (b + 2 * a)) (att t) (put (b + 2 * a) o R))))
toward-fits P R f b a o t (some x) r e =
    rw (← e, r.far (b + 2 * a) (omega arith))
    (done-guard (is_free (P.owner (b + 2 * a))) (put (b + 2 * a) o R) ∙ sym (and-cond (is_free (P.owner (b + 2 * a))) (is_free (P.owner (suc (b + 2 * a))))))

write-fits : (P R : St) (f : ℕ → Act) (b a : ℕ) (o : Owner) (e : Act) → Rel P R f b a → done (write o (b + 2 * a) e R) ≡ needs (free_in P) (no_cell P) f b a e
write-fits P R f b a o blank r = refl
write-fits P R f b a o (rule q) r = unfold plain in rw (r.far (b + 2 * a) (omega arith)) (done-guard (is_free (P.owner (b + 2 * a))) (put (b + 2 * a) o R))
write-fits P R f b a o (shift t) r = toward-fits P R f b a o t (R.place t) r (r.homes t)

-- the relation goes on
plain-rel : (P R Q : St) (f : ℕ → Act) (b a : ℕ) (o : Owner) → Rel P R f b a → ((t : ℕ) → no_cell R t ≡ (no_cell P t && not (seen f t (suc a))))
    → plain o (b + 2 * a) R ≡ some Q → Rel P Q f b (suc a)
unfolding plain put
plain-rel P R Q f b a o r h e =
    let g = through (is_free (R.owner (b + 2 * a))) (put (b + 2 * a) o R) Q e in
    subst (λ (S : St). Rel P S f b (suc a)) g.out
    (record { far = λ d l. upd_other R.owner (b + 2 * a) o d (omega arith) ∙ r.far d (omega arith); homes = h })

settle-rel : (P R Q : St) (f : ℕ → Act) (b a : ℕ) (o : Owner) (t : ℕ) → f a ≡ shift t → Rel P R f b a → settle o t (b + 2 * a) R ≡ some Q → Rel P Q f b (suc a)
unfolding settle put house
settle-rel P R Q f b a o t fa r e =
    let g = through (is_free (R.owner (b + 2 * a)) && is_free (R.owner (suc (b + 2 * a)))) (house t (b + 2 * a) (put (suc (b + 2 * a)) (att t) (put (b + 2 * a) o R))) Q e in
    subst (λ (S : St). Rel P S f b (suc a)) g.out
    (record {
      far = λ d l. upd_other (upd R.owner (b + 2 * a) o) (suc (b + 2 * a)) (att t) d (omega arith) ∙ upd_other R.owner (b + 2 * a) o d (omega arith) ∙ r.far d (omega arith);
      homes = λ u. homes u (eqb t u) refl;
    })
  where
    homes : (u : ℕ) (i : Bool) → eqb t u ≡ i → homeless (upd R.place t (some (b + 2 * a)) u) ≡ (no_cell P u && not (is_shift_to (f a) u || seen f u a))
    homes u true i = let q = eqb-true t u i in rw (fa, i, ← q, upd_same R.place t (some (b + 2 * a))) (sym (bool.and-false (homeless (P.place t))))
    homes u false i = rw (fa, i, upd_other R.place t (some (b + 2 * a)) u (λ z. eqb-false t u i (sym z))) (r.homes u)

toward-rel : (P R Q : St) (f : ℕ → Act) (b a : ℕ) (o : Owner) (t : ℕ) (x : Option ℕ) → R.place t ≡ x → f a ≡ shift t → Rel P R f b a
    → toward o t (b + 2 * a) x R ≡ some Q → Rel P Q f b (suc a)
toward-rel P R Q f b a o t none px fa r e = settle-rel P R Q f b a o t fa r e
toward-rel P R Q f b a o t (some x) px fa r e = plain-rel P R Q f b a o r (λ u. homes u (eqb t u) refl) e
  where
    homes : (u : ℕ) (i : Bool) → eqb t u ≡ i → no_cell R u ≡ (no_cell P u && not (is_shift_to (f a) u || seen f u a))
    homes u true i = let q = eqb-true t u i in rw (fa, i, ← q, px) (sym (bool.and-false (homeless (P.place t))))
    homes u false i = rw (fa, i) (r.homes u)

write-rel : (P R Q : St) (f : ℕ → Act) (b a : ℕ) (o : Owner) (e : Act) → f a ≡ e → Rel P R f b a → write o (b + 2 * a) e R ≡ some Q → Rel P Q f b (suc a)
write-rel P R Q f b a o blank fa r h =
    let out : R ≡ Q = cc in
    subst (λ (S : St). Rel P S f b (suc a)) out (record { far = λ d l. r.far d (omega arith); homes = λ u. rw fa (r.homes u) })
write-rel P R Q f b a o (rule q) fa r h = plain-rel P R Q f b a o r (λ u. rw fa (r.homes u)) h
write-rel P R Q f b a o (shift t) fa r h = toward-rel P R Q f b a o t (R.place t) refl fa r h

-- the columns below n have been placed, from P to R; or one of them did not fit
pub data Filled (J : Job) (κ : Kind) (s b n : ℕ) (P : St) (o : Option St) : Type 0 where
  fitted : (R : St) → o ≡ some R → Rel P R (row J κ s) b n → fits_upto P (row J κ s) b n ≡ true → Filled J κ s b n P o
  unfit : o ≡ none → fits_upto P (row J κ s) b n ≡ false → Filled J κ s b n P o

pub fill-fits : (J : Job) (κ : Kind) (s b n : ℕ) (P R : St) → Rel P R (row J κ s) b 0 → Filled J κ s b n P (fill J κ s b n R)
fill-fits J κ s b zero P R r = fitted R refl r refl
fill-fits J κ s b (suc n) P R r = go (fill J κ s b n R) (fill-fits J κ s b n P R r)
  where
    last : (Q : St) → Rel P Q (row J κ s) b n → fits_upto P (row J κ s) b n ≡ true → (o : Option St) → write (ent κ s n) (b + 2 * n) (row J κ s n) Q ≡ o
        → done o ≡ needs (free_in P) (no_cell P) (row J κ s) b n (row J κ s n) → Filled J κ s b (suc n) P o
    last Q r e none w h = unfit refl (rw (e, ← h) refl)
    last Q r e (some S) w h = fitted S refl (write-rel P Q S (row J κ s) b n (ent κ s n) (row J κ s n) refl r w) (rw (e, ← h) refl)

    go : (o : Option St) → Filled J κ s b n P o → Filled J κ s b (suc n) P (bind o (write (ent κ s n) (b + 2 * n) (row J κ s n)))
    go o (fitted Q w r e) =
        rw w (last Q r e (write (ent κ s n) (b + 2 * n) (row J κ s n) Q) refl (write-fits P Q (row J κ s) b n (ent κ s n) (row J κ s n) r))
    go o (unfit w e) = rw w (unfit refl (rw e refl))

pub rel-begin : (J : Job) (P : St) (κ : Kind) (s b : ℕ) → Rel P (set_base κ s b P) (row J κ s) b 0
unfolding set_base
rel-begin J P κ s b = record { far = λ d l. refl; homes = λ t. sym (bool.and-true (homeless (P.place t))) }

-- a base is taken exactly where it is no other row's and the needed cells are free
pub try-words : (J : Job) (κ : Kind) (s : ℕ) (P : St) (b : ℕ)
    → done (try_row J κ s P b) ≡ (not (used P κ b J.states) && fits_upto P (row J κ s) b J.syms)
unfolding try_row
try-words J κ s P b = go (used P κ b J.states)
  where
    go : (t : Bool) → done (try_of t J κ s b P) ≡ (not t && fits_upto P (row J κ s) b J.syms)
    go true = refl
    go false = of (fill J κ s b J.syms (set_base κ s b P)) (fill-fits J κ s b J.syms P (set_base κ s b P) (rel-begin J P κ s b))
      where
        of : (o : Option St) → Filled J κ s b J.syms P o → done o ≡ fits_upto P (row J κ s) b J.syms
        of o (fitted Q w r e) = rw (w, e) refl
        of o (unfit w e) = rw (w, e) refl
