-- A move says what its rows say, and nothing else. Assumes nothing.
use Rattle.std.specs.Prelude.{◌≡◌, refl, ◌↔◌, Bool, true, false, ℕ, suc, ◌<◌, ltb, Option, Some, None, List, [], ◌∷◌}
use Rattle.std.proofs.Common.{arith, length-drop, lt-ltb, le-ltb, ltb-true, ltb-false}
use Rattle.std.proofs.Math.ListN.{length, drop, drop_of_length-le}
use Rattle.tables.specs.Grammar.{Grammar}
use Rattle.reads.specs.Reads.{Act, shift, reduce, accept, blank, malformed, Go, goes, nowhere, broken, Reads}
use Rattle.machine.specs.Machine.{Job, Config, Step, current, pushed, written, gone, popped, acted, looked, move}
use Rattle.demands.specs.Moves.{Reading, Uncovers, SaysMove}
use Rattle.demands.specs.Laws.Rows.{exactly}

module _ (g : Grammar) (m : Reads) (j : Job) (c : Config) where
  abbrev Says : Step → Type 0
  Says = SaysMove g m j c

  move-only : (s : Step) → Says s → move g m j c ≡ s
  unfolding move looked acted popped gone pushed written
  move-only s (SaysMove.token e) = rw e
  move-only s (SaysMove.bad-cell a e) = rw (e.0, e.1)
  move-only s (SaysMove.syntax a e) = rw (e.0, e.1)
  move-only s (SaysMove.shift-full a t e h) = rw (e.0, e.1, le-ltb _ _ h)
  move-only s (SaysMove.shifts a t e h) = rw (e.0, e.1, lt-ltb _ _ h)
  move-only s (SaysMove.output-accept a e h) = rw (e.0, e.1, le-ltb _ _ h)
  move-only s (SaysMove.accepts a e h) = rw (e.0, e.1, lt-ltb _ _ h)
  move-only s (SaysMove.output a r e h) = rw (e.0, e.1, le-ltb _ _ h)
  move-only s (SaysMove.underflow a r e h k) =
      let d : drop (length (g.right r)) (c.state ∷ c.below) ≡ [] = drop_of_length-le (c.state ∷ c.below) {i = length (g.right r)} (omega arith) in
      rw (e.0, e.1, lt-ltb _ _ h, d)
  move-only s (SaysMove.bad-goto a r p ps e h d q) = rw (e.0, e.1, lt-ltb _ _ h, d, q)
  move-only s (SaysMove.no-goto a r p ps e h d q) = rw (e.0, e.1, lt-ltb _ _ h, d, q)
  move-only s (SaysMove.goto-full a r p t ps e h d q k) = rw (e.0, e.1, lt-ltb _ _ h, d, q, le-ltb _ _ k)
  move-only s (SaysMove.reduces a r p t ps e h d q k) = rw (e.0, e.1, lt-ltb _ _ h, d, q, lt-ltb _ _ k)

  module _ (a r : ℕ) (e : Reading g m j c a (reduce r)) (h : length c.made < j.list) where
    goto-some : (p : ℕ) (ps : List ℕ) → Uncovers g m j c r p ps → (x : Go) → m.go p (g.left r) ≡ x → (b : Bool) → ltb (length (p ∷ ps)) j.stack ≡ b → (s : Step) × Says s
    goto-some p ps d broken q b k = (_, SaysMove.bad-goto a r p ps e h d q)
    goto-some p ps d nowhere q b k = (_, SaysMove.no-goto a r p ps e h d q)
    goto-some p ps d (goes t) q true k = (_, SaysMove.reduces a r p t ps e h d q (ltb-true _ _ k))
    goto-some p ps d (goes t) q false k = (_, SaysMove.goto-full a r p t ps e h d q (ltb-false _ _ k))

    uncovered-some : (l : List ℕ) → drop (length (g.right r)) (c.state ∷ c.below) ≡ l → (s : Step) × Says s
    uncovered-some [] d = (_, SaysMove.underflow a r e h (omega (arith, length-drop (length (g.right r)) (c.state ∷ c.below), length-nil)))
      where
        length-nil : length (drop (length (g.right r)) (c.state ∷ c.below)) ≡ 0
        length-nil = rw d
    uncovered-some (p ∷ ps) d = goto-some p ps d (m.go p (g.left r)) refl (ltb (length (p ∷ ps)) j.stack) refl

  act-some : (a : ℕ) → current g.T j.tokens c.place ≡ Some a → (x : Act) → m.act c.state a ≡ x
      → (b : Bool) → ltb (suc (length c.below)) j.stack ≡ b → (d : Bool) → ltb (length c.made) j.list ≡ d → (s : Step) × Says s
  act-some a i malformed e b p d q = (_, SaysMove.bad-cell a (i, e))
  act-some a i blank e b p d q = (_, SaysMove.syntax a (i, e))
  act-some a i (shift t) e true p d q = (_, SaysMove.shifts a t (i, e) (ltb-true _ _ p))
  act-some a i (shift t) e false p d q = (_, SaysMove.shift-full a t (i, e) (ltb-false _ _ p))
  act-some a i accept e b p true q = (_, SaysMove.accepts a (i, e) (ltb-true _ _ q))
  act-some a i accept e b p false q = (_, SaysMove.output-accept a (i, e) (ltb-false _ _ q))
  act-some a i (reduce r) e b p true q = uncovered-some a r (i, e) (ltb-true _ _ q) (drop (length (g.right r)) (c.state ∷ c.below)) refl
  act-some a i (reduce r) e b p false q = (_, SaysMove.output a r (i, e) (ltb-false _ _ q))

  move_some : (s : Step) × Says s
  move_some = by (current g.T j.tokens c.place) refl
    where
      by : (x : Option ℕ) → current g.T j.tokens c.place ≡ x → (s : Step) × Says s
      by None e = (_, SaysMove.token e)
      by (Some a) e = act-some a e (m.act c.state a) refl (ltb (suc (length c.below)) j.stack) refl (ltb (length c.made) j.list) refl

  pub move-exactly : (s : Step) → (move g m j c ≡ s) ↔ Says s
  move-exactly = exactly Says move-only move_some
