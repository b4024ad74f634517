-- Bytes that stand at a place are the text from there on, up to what comes after them. Assumes nothing.
use Rattle.std.specs.Prelude.{◌≡◌, refl, true, ℕ, ◌+◌, eqb, length, drop, List, [], ◌∷◌, ◌++◌}
use Rattle.std.proofs.Common.{sym, ◌∙◌, drop-drop, eq-eqb, eqb-true, ap}
use Rattle.std.proofs.Math.Seq.{drop-append_seam}
use Rattle.tables.specs.Laws.Tests.{clash, and-true}
use Rattle.sheets.specs.Lines.{begins, stands}

-- bytes begin what they stand in front of
begins-own : (k t : List ℕ) → begins k (k ++ t) ≡ true
unfolding begins
begins-own [] t = refl
begins-own (b ∷ k) t = rw (eq-eqb b b refl) (begins-own k t)

-- a text that begins with these bytes is these bytes and what comes after them
begins-true : (k t : List ℕ) → begins k t ≡ true → t ≡ k ++ drop (length k) t
unfolding begins
begins-true [] t e = refl
begins-true (b ∷ k) [] e = absurd (clash e refl)
begins-true (b ∷ k) (c ∷ t) e =
    let p : (eqb b c ≡ true) × (begins k t ≡ true) = and-true (eqb b c) e in
    rw (eqb-true b c p.0) (ap (λ (r : List ℕ). c ∷ r) (begins-true k t p.1))

module _ (text : List ℕ) (at : ℕ) (k : List ℕ) where
  pub stands-true : stands text at k ≡ true → drop at text ≡ k ++ drop (at + length k) text
  unfolding stands
  stands-true e = begins-true k (drop at text) e ∙ ap (λ (r : List ℕ). k ++ r) (drop-drop (length k) at text)

  module _ (rest : List ℕ) (here : drop at text ≡ k ++ rest) where
    pub stands_here : stands text at k ≡ true
    unfolding stands
    stands_here = rw here (begins-own k rest)

    pub drop_past : drop (at + length k) text ≡ rest
    drop_past = sym (drop-drop (length k) at text) ∙ ap (drop (length k)) here ∙ drop-append_seam k rest
