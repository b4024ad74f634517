use Rattle.std.proofs.Common.{◌≡◌, sym, ◌∙◌, true, false, not, ◌<◌, ◌+◌, ℕ, List, [], ◌∷◌, Bool, reverse, length, get_or, set, Option, is_some, arith}
use Rattle.std.specs.Prelude.{replicate}
use Rattle.std.specs.List.{push}
use Rattle.std.proofs.lemmas.List.{reverse-append, get_or_append_left, length-append, nil_from_length}
use Rattle.std.proofs.Math.Seq.{get_or-append_seam}
use Rattle.std.proofs.Math.Bool.{Bool-set}
use Rattle.std.proofs.Math.Logic.{∥∥₁_elim, ∥∥₁_map, ∥∥₁_prop}
use Rattle.tables.specs.Lists.{lowest}
use Rattle.soundness.specs.declared.paths.Row.{Row}
use Rattle.soundness.specs.declared.rule.Rule.{Rule}
use Rattle.soundness.specs.Laws.Judged.{ends_at}
use Rattle.soundness.specs.Laws.Back.{entered_on, led_in, ends_well, Marked, Stand, stand-begin, stand-fails, stand-step, stand-end}
use Rattle.soundness.specs.Laws.Faults.{Sides, sides-below, answer-ends}
use Rattle.soundness.proofs.paths.Row.fails.Invariants.{Reading}
use Rattle.soundness.proofs.paths.Row.fails.Goals as goal

module _ (row : Row) (rule : Rule) (sides : Sides row.paths.judged rule) where
  begin : ∥ Reading row rule (set (replicate 1024 false) row.state true) rule.right.now ∥₁
  begin =
      ∥∥₁_elim row.paths.entered ∥∥₁_prop (λ w. ∥∥₁_map row.reached (λ r.
      record { entered = w; reached = r; stand = stand-begin row.paths w r; below = sides-below row.paths.judged sides }))

  module _ {flags : List Bool} (rest : List ℕ) (y : ℕ) {before : List ℕ} (e : before ≡ push rest y) (c : Reading row rule flags before) where
    unread : Stand row.paths.judged rule row.state flags (y ∷ reverse rest)
    unread = rw (e, reverse-append rest (y ∷ [])) at c.stand

    longer : length before ≡ length rest + 1
    longer = rw (e, length-append rest (y ∷ []))

    symbol : y < row.paths.judged.grammar.sizes.symbols
    symbol = rw (e, get_or-append_seam rest y [] 0) at (c.below (length rest) (omega (arith, longer)))

    further : (i : ℕ) → i < length rest → get_or rest i 0 < row.paths.judged.grammar.sizes.symbols
    further i h = rw (e, get_or_append_left rest (y ∷ []) 0 i h) at (c.below i (omega (arith, longer)))

    astray : (o : Option ℕ) → is_some o ≡ true → o ≡ lowest (entered_on row.paths flags y) row.paths.judged.table.states
        → true ≡ not (ends_at row.paths.judged row.state rule.number)
    astray o h q = answer-ends row.paths.judged sides c.reached true (stand-fails row.paths c.entered unread o h q)

    on : {next : List Bool} (o : Option ℕ) → is_some o ≡ false → o ≡ lowest (entered_on row.paths flags y) row.paths.judged.table.states
        → Marked (led_in row.paths flags y) row.paths.judged.table.states next
        → Reading row rule next rest
    on o h q m = record { entered = c.entered; reached = c.reached; stand = stand-step row.paths c.entered unread o h symbol q m; below = further }

  end : {flags : List Bool} (rest : List ℕ) → length rest ≡ 0 → (o : Option ℕ)
      → o ≡ lowest (ends_well row.paths.judged flags rule) row.paths.judged.table.states
      → Reading row rule flags rest → is_some o ≡ not (ends_at row.paths.judged row.state rule.number)
  end rest h o q c =
      answer-ends row.paths.judged sides c.reached (is_some o) (stand-end row.paths c.entered (rw (nil_from_length rest h) at c.stand) o q)

pub loop-y-init : goal.loop-y-init
loop-y-init c =
    rw (c.put.ensures, c.into_iter-y-iterator.ensures.into_iter_gives, c.rev-y-items.ensures.source, c.iter.ensures.rest)
    (begin c.args.self c.args.rule c.requires)

pub returns-then-is_some : goal.returns-then-is_some
returns-then-is_some c =
    ∥∥₁_elim c.loop-y.invariant (Bool-set _ _)
    (λ d. astray c.args.self c.args.rule c.requires _ _ c.in-Some.ensures.steps d c.lowest_astray.result (sym c.is_some.ensures ∙ c.if-is_some.true) c.lowest_astray.ensures)

pub loop-y-preserved : goal.loop-y-preserved
loop-y-preserved c =
    ∥∥₁_map c.loop-y.invariant (λ d.
    on c.args.self c.args.rule c.requires _ _ c.in-Some.ensures.steps d c.lowest_astray.result (sym c.is_some.ensures ∙ c.if-is_some.false) c.lowest_astray.ensures c.step_back-set.ensures)

pub returns : goal.returns
returns c =
    c.is_some-2.ensures
    ∙ ∥∥₁_elim c.loop-y.invariant (Bool-set _ _) (end c.args.self c.args.rule c.requires _ c.in-None.ensures.steps.0 c.lowest_bad_end.result c.lowest_bad_end.ensures)
