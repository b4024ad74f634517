-- What is said tells which case it was. Assumes nothing.
use Rattle.std.specs.Prelude.{◌≡◌, Result, Err, [], ◌∷◌, ℕ, ◌≤◌, get_or}
use Rattle.std.proofs.Common.{ap, arith}
use Rattle.tables.specs.declared.Refusal.{Refusal}
use Rattle.tables.specs.declared.Refusal.TheVariants.{Size, Grammar, Entry, State, Nonterminal}
use Rattle.tables.specs.Said.{Said, OK}
use Rattle.tables.specs.Judgement.{refused}
use Rattle.tables.specs.Laws.Judgement.{said-once}

-- what is said has one number
pub said-number : {s t : Said} → s ≡ t → s.number ≡ t.number
said-number e = ap (λ (s : Said). s.number) e

-- OK is 0, and its value is the one that it comes with
pub ok-number : {s : Said} {n : ℕ} → s ≡ OK (n ∷ []) → s.number ≡ 0
ok-number e = said-number e

pub ok-value : {m n : ℕ} → OK (m ∷ []) ≡ OK (n ∷ []) → m ≡ n
ok-value e = ap (λ (s : Said). get_or s.values 0 0) e

-- a refusal of a judgement is one of the numbers 1 to 4
pub refused-some : (e : Refusal) → 1 ≤ (refused e).number
refused-some Size = omega arith
refused-some (Grammar r) = omega arith
refused-some (Entry i) = omega arith
refused-some (State s) = omega arith
refused-some (Nonterminal x) = omega arith

pub refused-low : (e : Refusal) → (refused e).number ≤ 4
refused-low Size = omega arith
refused-low (Grammar r) = omega arith
refused-low (Entry i) = omega arith
refused-low (State s) = omega arith
refused-low (Nonterminal x) = omega arith

-- and it is said of one refusal alone
pub refused-once : (d e : Refusal) → refused d ≡ refused e → d ≡ e
refused-once d e h = let k : ◌≡◌ {A = Result (Unit {0}) Refusal} (Err d) (Err e) = said-once (Err d) (Err e) h in cc
