use Rattle.std.specs.Prelude.{refl}
use Rattle.std.proofs.Common.{ap, sym, ◌∙◌}
use Rattle.std.proofs.Math.Option.{some}
use Rattle.packing.specs.Bench.{base_b, base_of_b}
use Rattle.packing.specs.Lent.{cells, as_kind}
use Rattle.packing.specs.Laws.Turns.{row_is, nat-plus}
use Rattle.packing.proofs.bench.Bench.row.Goals as goal

pub returns-in-Skip-clause-cells : goal.returns-in-Skip-clause-cells
returns-in-Skip-clause-cells c =
    let o = c.of-row.ensures in
    row_is _ _ _ _ _ _ _ (sym c.in-Skip.is ∙ rw (o.job, o.row.0, o.row.1) at c.plan.ensures) _ refl

pub returns-in-Share-clause-cells : goal.returns-in-Share-clause-cells
returns-in-Share-clause-cells c =
    let o = c.of-row.ensures in
    row_is _ _ _ _ _ _ _ (sym c.in-Share.is ∙ rw (o.job, o.row.0, o.row.1) at c.plan.ensures) _
    (ap some (c.put_base.ensures.cells ∙ ap (λ n. base_b (as_kind c.args.kind) c.args.s n (cells c.args.self.now)) (c.base_of-b.ensures.base ∙ sym (nat-plus (base_of_b (as_kind c.args.kind) (cells c.args.self.now) c.in-Share.r)))))

pub returns-in-Search-clause-cells : goal.returns-in-Search-clause-cells
returns-in-Search-clause-cells c =
    let o = c.of-row.ensures in
    row_is _ _ _ _ _ _ _ (sym c.in-Search.is ∙ rw (o.job, o.row.0, o.row.1) at c.plan.ensures) _ (rw (o.job, o.row.0, o.row.1) at c.place_row.ensures.cells)
