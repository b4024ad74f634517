-- Filling a row on the bench is filling it on the board: the bench of what a step leaves is what the step on the bench leaves. Assumes nothing.
use Rattle.std.specs.Prelude.{◌≡◌, refl, ℕ, zero, suc, ◌+◌, ◌*◌, ◌≤◌, ◌<◌, Bool, ◌&&◌, eqb, ℤ, pos, set, cond, get_or}
use Rattle.std.proofs.Common.{sym, ◌∙◌, subst, ne_eqb, ap}
use Rattle.std.proofs.Math.Option.{Option, none, some}
use Rattle.tables.specs.Laws.Tests.{and-true}
use Rattle.cells.specs.Read.{Kind, action, goto}
use Rattle.packing.specs.Job.{Act, blank, shift, rule, Job, neg}
use Rattle.packing.specs.Rows.{row, rep}
use Rattle.packing.specs.Board.{Owner, free, ent, St, is_free, put, set_base, plain, settle, toward, write, fill}
use Rattle.packing.specs.Bench.{Bench, put_b, settle_b, write_b, fill_b, base_b}
use Rattle.packing.specs.Packed.{place_of, act_base, check_of}
use Rattle.packing.specs.Laws.Sound.{IsHome, Sound}
use Rattle.packing.specs.Laws.Tied.{Tied, free_of, through}
use Rattle.packing.specs.Laws.Fill.{base-at, write-ok, bind-some, fill-ok}
use Rattle.packing.specs.Laws.Tabulate.{tab₀}
use Rattle.packing.specs.Laws.Stores.{bases_of, places_of, put-arrays, settled, settle-arrays, action-arrays, goto-arrays}
use Rattle.packing.specs.Laws.Needs.{homeless}
use Rattle.packing.specs.Laws.Bench.{render, Live, live-good, place_none}

bench-eq : (A B : Bench) → A.bases ≡ B.bases → A.checks ≡ B.checks → A.marks ≡ B.marks → A.places ≡ B.places → A ≡ B
bench-eq A B p q r s = λ i. record { bases = p i; checks = q i; marks = r i; places = s i }

plain-square : (J : Job) (W : ℕ) (κ : Kind) (s a c : ℕ) (v : ℤ) (P Q : St) → Live J P → act_base J P c (row J κ s a) ≡ v → plain (ent κ s a) c P ≡ some Q
    → render J W Q ≡ put_b c v (pos a) (render J W P)
unfolding plain render
plain-square J W κ s a c v P Q l e h =
    let g = through (is_free (P.owner c)) (put c (ent κ s a) P) Q h in
    let p = put-arrays J W P c (ent κ s a) l.tied refl in
    subst (λ (R : St). render J W R ≡ put_b c v (pos a) (render J W P)) g.out
    (bench-eq (render J W (put c (ent κ s a) P)) (put_b c v (pos a) (render J W P)) (p.0 ∙ ap (set (bases_of J W P) c) e) p.1 p.2 p.3)

pub settle-square : (J : Job) (W : ℕ) (o : Owner) (t c : ℕ) (P Q : St) → Tied J P → ((κ : Kind) → P.base κ t ≡ 0) → IsHome J o t → t < J.states → P.place t ≡ none
    → settle o t c P ≡ some Q
    → render J W Q ≡ settle_b J t c (check_of J o) (render J W P)
unfolding settle settled render
settle-square J W o t c P Q ti ub ho lt n h =
    let g = through (is_free (P.owner c) && is_free (P.owner (suc c))) (settled P o t c) Q h in
    let b = and-true (is_free (P.owner c)) g.test in
    let p = settle-arrays J W P o t c ti ho (free_of (P.owner c) b.0) (free_of (P.owner (suc c)) b.1) n ub lt in
    subst (λ (R : St). render J W R ≡ settle_b J t c (check_of J o) (render J W P)) g.out
    (bench-eq (render J W (settled P o t c)) (settle_b J t c (check_of J o) (render J W P)) p.0 p.1 p.2 p.3)

-- what a cell that shifts to a state with a cell elsewhere holds
ptr-base : (J : Job) (P : St) (c t x : ℕ) → Sound J P → P.place t ≡ some x → P.owner c ≡ free → act_base J P c (shift t) ≡ neg (J.rules + x)
ptr-base J P c t x S e f = rw (e, ne_eqb x c (λ q. absurd (true≢false (subst (λ (z : ℕ). IsHome J (P.owner z) t) q (S.home t x e))))) refl
  where
    true≢false : IsHome J (P.owner c) t → ⊥
    true≢false h = subst (λ (o : Owner). IsHome J o t) f h

write-square : (J : Job) (W : ℕ) (κ : Kind) (s a c : ℕ) (P Q : St) (e : Act) → row J κ s a ≡ e → ((t : ℕ) → e ≡ shift t → (1 ≤ t) × (t < J.states)) → Live J P
    → write (ent κ s a) c e P ≡ some Q → render J W Q ≡ write_b J a c e (render J W P)
write-square J W κ s a c P Q blank w ok l h = let q : P ≡ Q = cc in ap (render J W) (sym q)
write-square J W κ s a c P Q (rule r) w ok l h = plain-square J W κ s a c (neg r) P Q l (rw w refl) h
write-square J W κ s a c P Q (shift t) w ok l h = go (P.place t) refl h
  where
    lt : t < J.states
    lt = (ok t refl).1

    test : eqb (get_or (render J W P).places t 0) 0 ≡ homeless (P.place t)
    test = unfold render in place_none J P t l.sound l.origin (ok t refl).0 lt

    at-t : get_or (render J W P).places t 0 ≡ place_of (P.place t)
    at-t = unfold render in tab₀ (λ r. place_of (P.place r)) J.states 0 t lt

    go : (o : Option ℕ) → P.place t ≡ o → toward (ent κ s a) t c o P ≡ some Q → render J W Q ≡ write_b J a c (shift t) (render J W P)
    go none i k =
        settle-square J W (ent κ s a) t c P Q l.tied (l.unbased t i) w lt i k
        ∙ ap (λ (b : Bool). cond b (settle_b J t c (pos a) (render J W P)) (put_b c (neg (J.rules + get_or (render J W P).places t 0)) (pos a) (render J W P)))
        (sym (test ∙ ap (λ (z : Option ℕ). homeless z) i))
    go (some x) i k =
        let f = through (is_free (P.owner c)) (put c (ent κ s a) P) Q (unfold plain in k) in
        let v : act_base J P c (row J κ s a) ≡ neg (J.rules + x) = ap (act_base J P c) w ∙ ptr-base J P c t x l.sound i (free_of (P.owner c) f.test) in
        plain-square J W κ s a c (neg (J.rules + x)) P Q l v k
        ∙ ap (λ (z : ℕ). put_b c (neg (J.rules + z)) (pos a) (render J W P)) (sym (at-t ∙ ap place_of i))
        ∙ ap (λ (b : Bool). cond b (settle_b J t c (pos a) (render J W P)) (put_b c (neg (J.rules + get_or (render J W P).places t 0)) (pos a) (render J W P)))
        (sym (test ∙ ap (λ (z : Option ℕ). homeless z) i))

pub fill-square : (J : Job) (W : ℕ) (κ : Kind) (s b n : ℕ) (P Q : St) → rep J κ s ≡ s → P.base κ s ≡ b → 1 ≤ b
    → ((a t : ℕ) → row J κ s a ≡ shift t → (1 ≤ t) × (t < J.states)) → Live J P
    → fill J κ s b n P ≡ some Q → Live J Q × (render J W Q ≡ fill_b J κ s b n (render J W P))
fill-square J W κ s b zero P Q re eb lb ok l h = let q : P ≡ Q = cc in (subst (Live J) q l, ap (render J W) (sym q))
fill-square J W κ s b (suc n) P Q re eb lb ok l h =
    let r = bind-some (fill J κ s b n P) (write (ent κ s n) (b + 2 * n) (row J κ s n)) Q h in
    let i = fill-square J W κ s b n P r.0 re eb lb ok l r.1 in
    let f = fill-ok J κ s b n P r.0 re eb lb l.sound r.1 in
    let e₁ = base-at J P r.0 κ s b f.0 eb in
    let w = write-ok J κ s n b r.0 Q (row J κ s n) re refl e₁ lb i.0.sound r.2 in (
      live-good J r.0 Q w.good i.0,
      write-square J W κ s n (b + 2 * n) r.0 Q (row J κ s n) refl (ok n) i.0 r.2 ∙ ap (write_b J n (b + 2 * n) (row J κ s n)) i.1,
    )

pub base-square : (J : Job) (W : ℕ) (κ : Kind) (s b x : ℕ) (P : St) → Live J P → s < J.states → P.place s ≡ some x → render J W (set_base κ s b P) ≡ base_b κ s b (render J W P)
unfolding render
base-square J W action s b x P l ls e =
    let p = action-arrays J W P s b x l.tied e (l.sound.home s x e) in
    let q : get_or (places_of J P) s 0 ≡ x = tab₀ (λ r. place_of (P.place r)) J.states 0 s ls ∙ ap place_of e in
    bench-eq (render J W (set_base action s b P)) (base_b action s b (render J W P)) (p.0 ∙ ap (λ (c : ℕ). set (bases_of J W P) c (pos b)) (sym q)) p.1 p.2 p.3
base-square J W goto s b x P l ls e =
    let p = goto-arrays J W P s b x l.tied e (l.sound.attached s x e) in
    let q : get_or (places_of J P) s 0 ≡ x = tab₀ (λ r. place_of (P.place r)) J.states 0 s ls ∙ ap place_of e in
    bench-eq (render J W (set_base goto s b P)) (base_b goto s b (render J W P)) (p.0 ∙ ap (λ (c : ℕ). set (bases_of J W P) (suc c) (pos b)) (sym q)) p.1 p.2 p.3
