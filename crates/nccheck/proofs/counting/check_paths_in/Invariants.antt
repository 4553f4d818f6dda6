use Rattle.nccheck.proofs.Prelude.{NamesAsBefore, openings, state, total, Takes, asked_for, ◌+◌, ◌≤◌, Some, take}
use Rattle.nccheck.proofs.counting.check_paths_in.Given as goal

abbrev pub invariant-loop-b : goal.invariant-loop-b
invariant-loop-b g l = record {
  names : NamesAsBefore (g.P.Opener.named l.fn.opener) (g.P.Opener.named l.opener);
  takes : Takes (openings g.P.Source.Source.is_transparent (g.P.Opener.named l.fn.opener) g.P.Opener.view) (asked_for l.options)
      (take l.b-index l.bytes) l.fn.list.path.items l.list.path.items
      (state g.O.Sink.view g.E.Sink.view l.fn.opener l.fn.out l.fn.err) (state g.O.Sink.view g.E.Sink.view l.opener l.out l.err)
      l.fn.list.tally (Some l.list.tally);
  few : total l.list.tally ≤ total l.fn.list.tally + l.b-index;
}
