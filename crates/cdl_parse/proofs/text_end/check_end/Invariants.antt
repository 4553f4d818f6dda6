use Rattle.cdl_parse.proofs.Prelude.{◌≡◌, length, true, false, closing_of, is_done, pieces_left, text_of, version_of, run, State, is_over}
use Rattle.cdl_parse.proofs.text_end.check_end.Given as goal

abbrev pub invariant-statements : goal.invariant-statements
invariant-statements l = record {
  text : text_of l.rest.cutter ≡ text_of l.fn.start.cutter;
  version : version_of l.rest.cutter ≡ version_of l.fn.start.cutter;
  past : is_done l.rest.cutter ≡ false → is_over l.here ≡ true;
  runs : (s : State) → s.section ≡ l.fn.section →
      run (text_of l.fn.start.cutter) (version_of l.fn.start.cutter) s (pieces_left l.fn.start.cutter) ≡ run (text_of l.fn.start.cutter) (version_of l.fn.start.cutter) (record s { section = l.here }) (pieces_left l.rest.cutter);
  line : closing_of l.rest ≡ closing_of l.fn.start;
}

abbrev pub decreases-statements : goal.decreases-statements
decreases-statements l = length (pieces_left l.rest.cutter)
