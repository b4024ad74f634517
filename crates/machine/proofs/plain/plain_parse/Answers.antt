use Rattle.std.proofs.Common.{sym, ◌∙◌, arith}
use Rattle.tables.specs.Laws.Size.{grammar_fits_lem}
use Rattle.tables.specs.Laws.Judgement.{ok-means}
use Rattle.machine.specs.Laws.Ruled.{filled-ruled}
use Rattle.machine.specs.Laws.Outcome.{job-limit}
use Rattle.machine.proofs.plain.plain_parse.Goals as goal

pub invariant_of-reads : goal.invariant_of-reads
invariant_of-reads c = record { ruled = filled-ruled (ok-means _ _ _ _ _ _ _ _ (sym c.in_ok-judge.ensures)) }

pub invariant_of-task : goal.invariant_of-task
invariant_of-task c =
    let f = grammar_fits_lem _ _ _ _ (ok-means _ _ _ _ _ _ _ _ (sym c.in_ok-judge.ensures)).all.grammar in
    record {
      lefts = omega (arith, f.lefts);
      lengths = omega (arith, f.lengths);
      ruled = omega arith;
      bounded = job-limit _ _ (sym c.job_fits.ensures ∙ c.if-not-job_fits.false);
    }
