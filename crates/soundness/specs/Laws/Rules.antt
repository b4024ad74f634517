-- The rules that a filled row reduces by, as flags. Assumes nothing.
use Rattle.std.specs.Prelude.{◌≡◌, refl, ◌≢◌, Bool, true, false, List, [], ℕ, ◌+◌, ◌≤◌, ◌<◌, ℤ, length, get_or, set, replicate, Option, Some, None}
use Rattle.std.proofs.Common.{sym, ap, ◌∙◌, arith, length-set, get_or-set_same, get_or-set_other}
use Rattle.std.proofs.Math.Decide.{ℕ_discrete, dec_lt}
use Rattle.tables.specs.declared.Sizes.{Sizes}
use Rattle.tables.specs.declared.Action.{Action}
use Rattle.tables.specs.declared.Action.TheVariants.{Blank, Shift, Reduce, Accept}
use Rattle.tables.specs.Lists.{among}
use Rattle.tables.specs.Grammar.{Grammar, grammar}
use Rattle.tables.specs.Filled.{filled_action_at}
use Rattle.tables.specs.Laws.Tests.{clash}
use Rattle.tables.specs.Laws.Members.{among-from, among_in}
use Rattle.reads.specs.Reads.{reduce, accept, Reads}
use Rattle.machine.specs.Reads.{act_of, plain_reads}
use Rattle.soundness.specs.Verdict.{Reduces, by-rule, by-accept}
use Rattle.soundness.specs.Check.{rules_at}
use Rattle.soundness.specs.Laws.Handle.{rules-from, rules-in}
use Rattle.soundness.specs.Laws.Edges.{bare, bare-T, reduces-any, acts-any}
use Rattle.soundness.specs.Laws.Walk.{same-all}
use Rattle.soundness.specs.Laws.Back.{In}

-- the rule that an entry reduces by; accept is rule 1
abbrev pub rule_number : Action → Option ℕ
rule_number Blank = None
rule_number (Shift t) = None
rule_number (Reduce r) = Some r
rule_number Accept = Some 1

-- the rules, and this one more
abbrev pub marked_by : List Bool → Option ℕ → List Bool
marked_by rules (Some r) = set rules r true
marked_by rules None = rules

-- the filled table's actions: no signed state matters
abbrev pub filled_rows : Sizes → List ℤ → List ℕ → Reads
filled_rows z table srule = plain_reads z table srule []

-- the rule of the filled entry for s and a
abbrev pub rule_at : Sizes → List ℤ → List ℕ → ℕ → ℕ → Option ℕ
rule_at z table srule s a = rule_number (filled_action_at z table srule s a)

module _ (z : Sizes) (table : List ℤ) (srule : List ℕ) (s : ℕ) where
  rule-reduces : (a : ℕ) {q : ℕ} → a < z.terminals → rule_at z table srule s a ≡ Some q → Reduces (bare z) (filled_rows z table srule) s q
  unfolding grammar plain_reads
  rule-reduces a {q} h e = by (filled_action_at z table srule s a) refl e
    where
      by : (x : Action) → filled_action_at z table srule s a ≡ x → rule_number x ≡ Some q → Reduces (bare z) (filled_rows z table srule) s q
      by Blank e d = absurd (cc)
      by (Shift t) e d = absurd (cc)
      by (Reduce r) e d = let o : r ≡ q = cc in rw (← o) (by-rule a h (ap act_of e))
      by Accept e d = let o : 1 ≡ q = cc in rw (← o) (by-accept a h (ap act_of e))

  -- a column of the row reduces by q
  record InColumn (q : ℕ) : Type 0 where
    pub at : ℕ
    pub below : at < z.terminals
    pub rule : rule_at z table srule s at ≡ Some q

  reduces-rule : {q : ℕ} → Reduces (bare z) (filled_rows z table srule) s q → InColumn q
  unfolding grammar plain_reads
  reduces-rule {q} (by-rule a h e) = record { at = a; below = h; rule = by (filled_action_at z table srule s a) e }
    where
      by : (x : Action) → act_of x ≡ reduce q → rule_number x ≡ Some q
      by Blank d = absurd (cc)
      by (Shift t) d = absurd (cc)
      by (Reduce r) d = cc
      by Accept d = absurd (cc)
  reduces-rule (by-accept a h e) = record { at = a; below = h; rule = by (filled_action_at z table srule s a) e }
    where
      by : (x : Action) → act_of x ≡ accept → rule_number x ≡ Some 1
      by Blank d = absurd (cc)
      by (Shift t) d = absurd (cc)
      by (Reduce r) d = absurd (cc)
      by Accept d = refl

-- of row s the first a columns are marked, each that reduces by its rule
pub record Ruled (z : Sizes) (table : List ℤ) (srule : List ℕ) (s a : ℕ) (rules : List Bool) : Type 0 where
  pub size : length rules ≡ 1025
  pub from : (q : ℕ) → In rules q → Reduces (bare z) (filled_rows z table srule) s q
  pub to : (b q : ℕ) → b < a → rule_at z table srule s b ≡ Some q → q ≤ 1024 → In rules q

module _ {z : Sizes} {table : List ℤ} {srule : List ℕ} {s : ℕ} where
  pub ruled-none : Ruled z table srule s 0 (replicate 1025 false)
  ruled-none = record { size = refl; from = λ q i. absurd (clash i (same-all false 1025 q)); to = λ b q h e l. absurd (omega arith) }

  pub ruled-more : {a : ℕ} {rules : List Bool} → Ruled z table srule s a rules → a < z.terminals
      → Ruled z table srule s (a + 1) (marked_by rules (rule_at z table srule s a))
  ruled-more {a} {rules} m h = by (rule_at z table srule s a) refl
    where
      -- the column before, or this one
      last : (b : ℕ) → b < a + 1 → Dec (b < a) → (b ≢ a) → b < a
      last b l (yes d) n = d
      last b l (no d) n = absurd (n (omega arith))

      by : (o : Option ℕ) → rule_at z table srule s a ≡ o → Ruled z table srule s (a + 1) (marked_by rules o)
      by None e = record { size = m.size; from = m.from; to = λ b q l d k. to b q l d k (ℕ_discrete b a) }
        where
          to : (b q : ℕ) → b < a + 1 → rule_at z table srule s b ≡ Some q → q ≤ 1024 → Dec (b ≡ a) → In rules q
          to b q l d k (yes n) = let c : None ≡ Some q = sym e ∙ (rw n at d) in absurd (cc)
          to b q l d k (no n) = m.to b q (last b l (dec_lt b a) n) d k
      by (Some r) e =
          record {
            size = simp length-set m.size;
            from = λ q i. from q i (ℕ_discrete q r);
            to = λ b q l d k. to b q l d k (ℕ_discrete q r) (ℕ_discrete b a);
          }
        where
          from : (q : ℕ) → In (set rules r true) q → Dec (q ≡ r) → Reduces (bare z) (filled_rows z table srule) s q
          from q i (yes n) = rw n (rule-reduces z table srule s a h e)
          from q i (no n) = m.from q (sym (get_or-set_other rules r q true false n) ∙ i)

          to : (b q : ℕ) → b < a + 1 → rule_at z table srule s b ≡ Some q → q ≤ 1024 → Dec (q ≡ r) → Dec (b ≡ a) → In (set rules r true) q
          to b q l d k (yes n) c = rw n (get_or-set_same rules r true false (let i : r < length rules = omega (arith, m.size, n) in i))
          to b q l d k (no n) (yes c) = let o : Some r ≡ Some q = sym e ∙ (rw c at d) in absurd (n (cc))
          to b q l d k (no n) (no c) = get_or-set_other rules r q true false n ∙ m.to b q (last b l (dec_lt b a) c) d k

  pub ruled-all : {a : ℕ} {rules : List Bool} → Ruled z table srule s a rules → z.terminals ≤ a → Ruled z table srule s z.terminals rules
  ruled-all m h = record { size = m.size; from = m.from; to = λ b q l e k. m.to b q (omega arith) e k }

  -- a rule of the row is marked
  pub ruled-in : {rules : List Bool} → Ruled z table srule s z.terminals rules → {q : ℕ} → q ≤ 1024 → Reduces (bare z) (filled_rows z table srule) s q → In rules q
  ruled-in {rules} m {q} l r =
      let c : InColumn z table srule s q = reduces-rule z table srule s r in
      m.to c.at q c.below c.rule l

  -- so a rule is marked where it is one of the row's
  pub ruled-among : {rules : List Bool} → Ruled z table srule s z.terminals rules → (left lens rights sgoto : List ℕ) (q : ℕ) → q ≤ 1024
      → get_or rules q false ≡ among q (rules_at (grammar z left lens rights) (plain_reads z table srule sgoto) s)
  ruled-among {rules} m left lens rights sgoto q l = by (get_or rules q false) refl
    where
      g : Grammar
      g = grammar z left lens rights

      v : Reads
      v = plain_reads z table srule sgoto

      absent : (b : Bool) → get_or rules q false ≡ false → among q (rules_at g v s) ≡ b → false ≡ b
      absent false e d = refl
      absent true e d =
          let r : Reduces g v s q = rules-from g v s (among-from q (rules_at g v s) d) in
          absurd (clash (ruled-in m l (reduces-any (sym (bare-T z left lens rights)) (acts-any z table srule sgoto []) r)) e)

      by : (b : Bool) → get_or rules q false ≡ b → b ≡ among q (rules_at g v s)
      by true e = sym (among_in q (rules_at g v s) (rules-in g v s (reduces-any (bare-T z left lens rights) (acts-any z table srule [] sgoto) (m.from q e))))
      by false e = absent (among q (rules_at g v s)) e refl
