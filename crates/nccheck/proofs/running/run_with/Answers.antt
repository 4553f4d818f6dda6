use Rattle.nccheck.proofs.Prelude.{state, refl, [], None, Some}
use Rattle.nccheck.proofs.Endings.{writes_after}
use Rattle.nccheck.proofs.InTurn.{is_told}
use Rattle.nccheck.proofs.running.run_with.Goals as goal

pub returns-in-Some-clause-runs : goal.returns-in-Some-clause-runs
returns-in-Some-clause-runs g c =
    let opener = c.run_words-status.new.opener in
    let mid = state g.O.Sink.view g.E.Sink.view opener c.run_words-status.new.out c.run_words-status.new.err in
    let new = state g.O.Sink.view g.E.Sink.view opener c.flush-flushed.new.self c.status_after.new.err in
    record {
      mid = mid;
      before = Some c.in-Some.status;
      after = c.status_after.result;
      runs = c.in-Some.ensures.runs;
      opener = refl;
      flushes = writes_after [] mid new c.flush-flushed.result c.in-Some.status c.status_after.result c.flush-flushed.ensures.wrote c.status_after.ensures;
      is = c.unwrap_or.ensures;
    }

pub returns-in-None-clause-runs : goal.returns-in-None-clause-runs
returns-in-None-clause-runs g c = record {
  mid = state g.O.Sink.view g.E.Sink.view c.run_words-status.new.opener c.run_words-status.new.out c.run_words-status.new.err;
  before = None;
  after = None;
  runs = c.in-None.ensures.runs;
  opener = refl;
  flushes = (is_told _ _ _ c.flush-flushed.result c.flush-flushed.ensures.wrote, refl, refl);
  is = refl;
}
