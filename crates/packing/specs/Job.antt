-- What packing is asked to do: a table, a signing, and where each default target stands.
use Rattle.std.specs.Prelude.{ℕ, zero, suc, ◌-◌, Bool, true, false, List, eqb, ℤ, pos, negsuc, neg_ℤ, get_or}
use Rattle.tables.specs.declared.Sizes.{Sizes}
use Rattle.tables.specs.Entry.{entry_at}
-- an entry of either kind of column, the code's own type; rule 1 is accept
pub use Rattle.packing.specs.declared.Written.{Written as Act}
pub use Rattle.packing.specs.declared.Written.TheVariants.{Blank as blank, Shift as shift, Rule as rule}

-- T, M, G and L; the entry of each state and symbol; the signed rule of each state and the signed state of each nonterminal; the cell of each nonterminal's default target
pub record Job : Type 0 where
  pub terms : ℕ
  pub syms : ℕ
  pub rules : ℕ
  pub states : ℕ
  pub entry : ℕ → ℕ → Act
  pub ssig : ℕ → ℕ
  pub gsig : ℕ → ℕ
  pub off : ℕ → ℕ

-- what a table entry says
abbrev pub view : ℤ → Act
view (pos zero) = blank
view (pos (suc t)) = shift (suc t)
view (negsuc r) = rule (suc r)

-- the job of a table and a signing that are given as lists
unfoldable pub job_of : (ℕ → ℕ) → Sizes → ℕ → List ℤ → List ℕ → List ℕ → Job
job_of off z states table srule sgoto =
    record {
      terms = z.terminals;
      syms = z.symbols;
      rules = z.rules;
      states = states;
      entry = λ s a. view (entry_at z table s a);
      ssig = λ s. get_or srule s 0;
      gsig = λ A. get_or sgoto (A - z.terminals) 0;
      off = off;
    }

-- ---- entries compared

abbrev pub eq_act : Act → Act → Bool
eq_act blank blank = true
eq_act blank (shift t) = false
eq_act blank (rule r) = false
eq_act (shift t) blank = false
eq_act (shift t) (shift u) = eqb t u
eq_act (shift t) (rule r) = false
eq_act (rule r) blank = false
eq_act (rule r) (shift t) = false
eq_act (rule r) (rule q) = eqb r q

abbrev pub is_blank : Act → Bool
is_blank blank = true
is_blank (shift t) = false
is_blank (rule r) = false

abbrev pub is_shift_to : Act → ℕ → Bool
is_shift_to blank t = false
is_shift_to (shift u) t = eqb u t
is_shift_to (rule r) t = false

-- ---- numbers in cells

abbrev pub neg : ℕ → ℤ
neg n = neg_ℤ (pos n)

-- Check of an attached cell: -r where rule r is signed, else the empty mark M
abbrev pub sign_check : Job → ℕ → ℤ
sign_check J zero = pos J.syms
sign_check J (suc r) = negsuc r
