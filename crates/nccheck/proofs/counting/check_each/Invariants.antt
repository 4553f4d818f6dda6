use Rattle.nccheck.proofs.Prelude.{texts_of, NamesAsBefore, Path, openings, state, no_files, total, Counts, asked_for, ◌≤◌, map, Some, take}
use Rattle.nccheck.proofs.counting.check_each.Given as goal

abbrev pub invariant-loop-file : goal.invariant-loop-file
invariant-loop-file g l = record {
  names : NamesAsBefore (g.P.Opener.named l.fn.opener) (g.P.Opener.named l.opener);
  counts : Counts (openings g.P.Source.Source.is_transparent (g.P.Opener.named l.fn.opener) g.P.Opener.view) (asked_for l.options)
      (map Path (texts_of (take l.file-index l.files)))
      (state g.O.Sink.view g.E.Sink.view l.fn.opener l.fn.out l.fn.err) (state g.O.Sink.view g.E.Sink.view l.opener l.out l.err)
      no_files (Some l.tally);
  few : total l.tally ≤ l.file-index;
}
