use Rattle.std.proofs.Common.{◌∙◌, refl, sym}
use Rattle.nccheck.proofs.InTurn.{counts_one, ended_at}
use Rattle.nccheck.proofs.counting.check_and_count.Goals as goal

pub returns-then-ends_run-clause-counts : goal.returns-then-ends_run-clause-counts
returns-then-ends_run-clause-counts g c =
    counts_one c.check_item-answer.result c.check_item-answer.ensures.checks
    (ended_at c.args.tally _ (sym c.ends_run.ensures ∙ c.if-ends_run.true))

pub returns-clause-counts : goal.returns-clause-counts
returns-clause-counts g c =
    rw c.with.ensures
    (counts_one c.check_item-answer.result c.check_item-answer.ensures.checks (refl, rw (← c.ends_run.ensures, c.if-ends_run.false) refl))
