use Rattle.nccheck.proofs.Prelude.{fun_ext}
use Rattle.nccheck.proofs.Listing.{all_stop, all_then, all_words}
use Rattle.nccheck.proofs.counting.check_all.Goals as goal

pub returns-in_err-tally-clause-counts : goal.returns-in_err-tally-clause-counts
returns-in_err-tally-clause-counts g c = rw c.from_residual.ensures (all_stop c.in_err-tally.ensures.counts)

pub returns-then-options-clause-counts : goal.returns-then-options-clause-counts
returns-then-options-clause-counts g c =
    all_then c.if-options.true c.in_ok-tally.ensures.counts (rw (fun_ext c.check_each.ensures.names) at c.check_list.ensures.counts)

pub returns-else-options-clause-counts : goal.returns-else-options-clause-counts
returns-else-options-clause-counts g c = all_words c.if-options.false c.in_ok-tally.ensures.counts
