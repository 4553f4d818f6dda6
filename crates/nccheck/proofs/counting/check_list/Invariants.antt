use Rattle.nccheck.proofs.Prelude.{view_of, NamesAsBefore, openings, state, total, asked_for, ◌+◌, ◌*◌, ◌≤◌}
use Rattle.nccheck.proofs.Listing.{ReadUpTo}
use Rattle.nccheck.proofs.counting.check_list.Given as goal

abbrev pub invariant-loop-turn : goal.invariant-loop-turn
invariant-loop-turn g l = record {
  names : NamesAsBefore (g.P.Opener.named l.fn.opener) (g.P.Opener.named l.opener);
  read : ReadUpTo (openings g.P.Source.Source.is_transparent (g.P.Opener.named l.fn.opener) g.P.Opener.view) (asked_for l.options)
      (view_of g.R.Read.remaining l.fn.input) (view_of g.R.Read.remaining l.input) l.list.path.items
      (state g.O.Sink.view g.E.Sink.view l.fn.opener l.fn.out l.fn.err) (state g.O.Sink.view g.E.Sink.view l.opener l.out l.err)
      l.fn.tally l.list.tally l._turn;
  few : total l.list.tally ≤ total l.fn.tally + 4096 * l._turn;
}
