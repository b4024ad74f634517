-- A word that a row of symbols yields, piece by piece, and that a rightmost derivation of terminals is one. Assumes nothing.
use Rattle.std.specs.Prelude.{◌≡◌, refl, List, [], ◌∷◌, ◌++◌, ℕ, ◌≤◌, ◌<◌}
use Rattle.std.proofs.Common.{sym, ap, ◌∙◌, subst, append_assoc}
use Rattle.tables.specs.Grammar.{Grammar}
use Rattle.soundness.specs.Derivation.{Terminals, no-terminals, terminal, Rightmost, nothing_left, replace}

-- a terminal yields itself, a nonterminal what the right side of one of its rules yields
pub data Yields (g : Grammar) : List ℕ → List ℕ → Type 0 where
  nothing : Yields g [] []
  itself : {a : ℕ} {xs w : List ℕ} → 1 ≤ a → a < g.T → Yields g xs w → Yields g (a ∷ xs) (a ∷ w)
  by-rule : {x : ℕ} {xs v w : List ℕ} (r : ℕ) → 1 ≤ r → r ≤ g.G → g.left r ≡ x → Yields g (g.right r) v → Yields g xs w → Yields g (x ∷ xs) (v ++ w)

-- a word apart into what two rows yield
pub record Apart (g : Grammar) (xs ys w : List ℕ) : Type 0 where
  pub first : List ℕ
  pub second : List ℕ
  pub joined : w ≡ first ++ second
  pub by_first : Yields g xs first
  pub by-second : Yields g ys second

module _ {g : Grammar} where
  pub yields-join : {xs ys v w : List ℕ} → Yields g xs v → Yields g ys w → Yields g (xs ++ ys) (v ++ w)
  yields-join nothing q = q
  yields-join (itself l h p) q = itself l h (yields-join p q)
  yields-join {ys = ys} {w = w} (by-rule {x = x} {xs = xs} {v = v} {w = u} r l h e p p') q =
      subst (λ (t : List ℕ). Yields g (x ∷ (xs ++ ys)) t) (sym (append_assoc v u w)) (by-rule r l h e p (yields-join p' q))

  pub yields-apart : (xs ys : List ℕ) {w : List ℕ} → Yields g (xs ++ ys) w → Apart g xs ys w
  yields-apart [] ys {w} q = record { first = []; second = w; joined = refl; by_first = nothing; by-second = q }
  yields-apart (x ∷ xs) ys (itself {w = w} l h q) =
      let a : Apart g xs ys w = yields-apart xs ys q in
      record { first = x ∷ a.first; second = a.second; joined = ap (λ (t : List ℕ). x ∷ t) a.joined; by_first = itself l h a.by_first; by-second = a.by-second }
  yields-apart (x ∷ xs) ys (by-rule {v = v} {w = w} r l h e p q) =
      let a : Apart g xs ys w = yields-apart xs ys q in
      record {
        first = v ++ a.first;
        second = a.second;
        joined = ap (λ (t : List ℕ). v ++ t) a.joined ∙ sym (append_assoc v a.first a.second);
        by_first = by-rule r l h e p a.by_first;
        by-second = a.by-second;
      }

  yields-terminals : {w : List ℕ} → Terminals g.T w → Yields g w w
  yields-terminals no-terminals = nothing
  yields-terminals (terminal l h t) = itself l h (yields-terminals t)

  -- a left side in the place of its right side
  yields-replaced : (u : List ℕ) (r : ℕ) (w : List ℕ) {v : List ℕ} → 1 ≤ r → r ≤ g.G → Yields g (u ++ (g.right r ++ w)) v → Yields g (u ++ (g.left r ∷ w)) v
  yields-replaced u r w l h q =
      let a : Apart g u (g.right r ++ w) _ = yields-apart u (g.right r ++ w) q in
      let b : Apart g (g.right r) w a.second = yields-apart (g.right r) w a.by-second in
      subst (λ (t : List ℕ). Yields g (u ++ (g.left r ∷ w)) t) (sym (a.joined ∙ ap (λ (t : List ℕ). a.first ++ t) b.joined))
      (yields-join a.by_first (by-rule r l h refl b.by_first b.by-second))

  pub rightmost-yields : {u rs v : List ℕ} → Rightmost g u rs v → Terminals g.T v → Yields g u v
  rightmost-yields nothing_left t = yields-terminals t
  rightmost-yields (replace u r w l h k d) t = yields-replaced u r w l h (rightmost-yields d t)

-- a word made of pieces, of each of which P says that it is of its symbol
pub data Pieces (P : ℕ → List ℕ → Type 0) : List ℕ → List ℕ → Type 0 where
  no_pieces : Pieces P [] []
  piece : {x : ℕ} {xs v w : List ℕ} → P x v → Pieces P xs w → Pieces P (x ∷ xs) (v ++ w)

-- what holds of terminals, and of a left side where it holds of the pieces of the right side, holds of the pieces of all that is yielded
module _ {g : Grammar} (P : ℕ → List ℕ → Type 0) (terminals : (a : ℕ) → 1 ≤ a → a < g.T → P a (a ∷ []))
    (rules : (r : ℕ) → 1 ≤ r → r ≤ g.G → (w : List ℕ) → Pieces P (g.right r) w → P (g.left r) w) where
  pub yields-pieces : {xs w : List ℕ} → Yields g xs w → Pieces P xs w
  yields-pieces nothing = no_pieces
  yields-pieces (itself {a = a} l h q) = piece (terminals a l h) (yields-pieces q)
  yields-pieces (by-rule {v = v} r l h e p q) = piece (subst (λ (x : ℕ). P x v) e (rules r l h v (yields-pieces p))) (yields-pieces q)
