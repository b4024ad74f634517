-- The room that a row needs is the room that its cells need. Assumes nothing.
use Rattle.std.specs.Prelude.{◌≡◌, refl, ℕ, zero, suc, ◌+◌, ◌*◌, max, Bool, true, false, not, ◌&&◌, leb}
use Rattle.std.proofs.Common.{sym, ap, ◌∙◌, subst, arith, le-leb, leb-true, leb-false}
use Rattle.std.proofs.Math.Bool.{and_assoc}
use Rattle.std.proofs.Math.Option.{Option, none, some}
use Rattle.std.proofs.lemmas.Bool.{lt-leb}
use Rattle.cells.specs.Read.{Kind}
use Rattle.std.proofs.Math.Bool as bool
use Rattle.packing.specs.Job.{Act, blank, shift, rule, Job}
use Rattle.packing.specs.Rows.{row}
use Rattle.packing.specs.Board.{Owner, att, ent, St, is_free, put, house, plain, settle, toward, write, fill}
use Rattle.packing.specs.Bench.{inside, seen, needs, needs_upto}
use Rattle.packing.specs.Laws.Tied.{through}
use Rattle.packing.specs.Laws.Fill.{bind-some}
use Rattle.packing.specs.Laws.Needs.{homeless, no_cell, Rel, Filled, fitted, unfit, fill-fits}

leb-max : (x y W : ℕ) → leb (max x y) W ≡ (leb x W && leb y W)
leb-max x y W = go (leb x W) (leb y W) refl refl
  where
    go : (p q : Bool) → leb x W ≡ p → leb y W ≡ q → leb (max x y) W ≡ (p && q)
    go true true e f = let a = leb-true x W e in let b = leb-true y W f in le-leb (max x y) W (omega arith)
    go true false e f = let b = leb-false y W f in lt-leb (max x y) W (omega arith)
    go false q e f = let a = leb-false x W e in lt-leb (max x y) W (omega arith)

plain-room : (W : ℕ) (o : Owner) (c : ℕ) (R Q : St) → plain o c R ≡ some Q → leb Q.top W ≡ (leb R.top W && inside W c)
unfolding plain put
plain-room W o c R Q h = let g = through (is_free (R.owner c)) (put c o R) Q h in subst (λ (S : St). leb S.top W ≡ (leb R.top W && inside W c)) g.out (leb-max R.top (suc c) W)

pub settle-room : (W : ℕ) (o : Owner) (t c : ℕ) (R Q : St) → settle o t c R ≡ some Q → leb Q.top W ≡ (leb R.top W && (inside W c && inside W (suc c)))
unfolding settle put house
settle-room W o t c R Q h =
    let g = through (is_free (R.owner c) && is_free (R.owner (suc c))) (house t c (put (suc c) (att t) (put c o R))) Q h in
    subst (λ (S : St). leb S.top W ≡ (leb R.top W && (inside W c && inside W (suc c)))) g.out
    (leb-max (max R.top (suc c)) (suc (suc c)) W ∙ ap (λ (z : Bool). z && leb (suc (suc c)) W) (leb-max R.top (suc c) W) ∙ and_assoc (leb R.top W) (inside W c) (inside W (suc c)))

write-room : (W : ℕ) (P R Q : St) (f : ℕ → Act) (b a : ℕ) (o : Owner) (e : Act) → Rel P R f b a → write o (b + 2 * a) e R ≡ some Q
    → leb Q.top W ≡ (leb R.top W && needs (inside W) (no_cell P) f b a e)
write-room W P R Q f b a o blank r h = let q : R ≡ Q = cc in ap (λ (S : St). leb S.top W) (sym q) ∙ sym (bool.and-true (leb R.top W))
write-room W P R Q f b a o (rule q) r h = plain-room W o (b + 2 * a) R Q h
write-room W P R Q f b a o (shift t) r h = go (R.place t) h (r.homes t)
  where
    go : (x : Option ℕ) → toward o t (b + 2 * a) x R ≡ some Q → homeless x ≡ (no_cell P t && not (seen f t a))
        → leb Q.top W ≡ (leb R.top W && needs (inside W) (no_cell P) f b a (shift t))
    go none k e = rw (← e) (settle-room W o t (b + 2 * a) R Q k)
    go (some x) k e = rw (← e) (plain-room W o (b + 2 * a) R Q k ∙ ap (λ (q : Bool). leb R.top W && q) (sym (bool.and-true (inside W (b + 2 * a)))))

fill-rel : (J : Job) (κ : Kind) (s b n : ℕ) (P R Q : St) → Rel P R (row J κ s) b 0 → fill J κ s b n R ≡ some Q → Rel P Q (row J κ s) b n
fill-rel J κ s b n P R Q r h = go (fill-fits J κ s b n P R r)
  where
    go : Filled J κ s b n P (fill J κ s b n R) → Rel P Q (row J κ s) b n
    go (fitted S e k i) = let q : S ≡ Q = cc in subst (λ (Z : St). Rel P Z (row J κ s) b n) q k
    go (unfit e i) = absurd (let z : ◌≡◌ {A = ℕ} 0 1 = cc in omega arith)

pub fill-room : (J : Job) (W : ℕ) (κ : Kind) (s b n : ℕ) (P R Q : St) → Rel P R (row J κ s) b 0 → fill J κ s b n R ≡ some Q
    → leb Q.top W ≡ (leb R.top W && needs_upto (inside W) (no_cell P) (row J κ s) b n)
fill-room J W κ s b zero P R Q r h = let q : R ≡ Q = cc in ap (λ (S : St). leb S.top W) (sym q) ∙ sym (bool.and-true (leb R.top W))
fill-room J W κ s b (suc n) P R Q r h =
    let i = bind-some (fill J κ s b n R) (write (ent κ s n) (b + 2 * n) (row J κ s n)) Q h in
    let x = write-room W P i.0 Q (row J κ s) b n (ent κ s n) (row J κ s n) (fill-rel J κ s b n P R i.0 r i.1) i.2 in
    let y = fill-room J W κ s b n P R i.0 r i.1 in
    x ∙ ap (λ (z : Bool). z && needs (inside W) (no_cell P) (row J κ s) b n (row J κ s n)) y
    ∙ and_assoc (leb R.top W) (needs_upto (inside W) (no_cell P) (row J κ s) b n) (needs (inside W) (no_cell P) (row J κ s) b n (row J κ s n))
