use Rattle.nccheck.proofs.Prelude.{refl, state}
use Rattle.nccheck.proofs.Endings.{writes_after}
use Rattle.nccheck.proofs.Listing.{runs_counted, runs_silent, runs_stopped}
use Rattle.nccheck.proofs.running.check_files.Goals as goal

pub returns-in_err-tally-clause-runs : goal.returns-in_err-tally-clause-runs
returns-in_err-tally-clause-runs g c = rw c.from_residual.ensures (runs_stopped c.in_err-tally.ensures.counts)

pub returns-then-not-options-clause-runs : goal.returns-then-not-options-clause-runs
returns-then-not-options-clause-runs g c = rw c.status.ensures (runs_silent c.in_ok-tally.ensures.counts c.if-not-options.true)

pub returns-clause-runs : goal.returns-clause-runs
returns-clause-runs g c =
    let opener = c.check_all.new.opener in
    let mid = state g.O.Sink.view g.E.Sink.view opener c.check_all.new.out c.check_all.new.err in
    let new = state g.O.Sink.view g.E.Sink.view opener c.put_summary-written.new.sink c.status_after.new.err in
    runs_counted c.in_ok-tally.ensures.counts c.if-not-options.false refl
    (writes_after _ mid new c.put_summary-written.result _ _ c.put_summary-written.ensures (rw c.status-2.ensures at c.status_after.ensures))
