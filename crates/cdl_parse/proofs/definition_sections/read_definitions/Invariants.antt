use Rattle.cdl_parse.proofs.Prelude.{◌≡◌, length, pieces_left, text_of, version_of, closing_line, closing_of, empty, run, AreFit, state_of}
use Rattle.cdl_parse.proofs.definition_sections.read_definitions.Given as goal

abbrev pub invariant-statements : goal.invariant-statements
invariant-statements l = record {
  text : text_of l.rest.cutter ≡ text_of l.fn.start;
  version : version_of l.rest.cutter ≡ version_of l.fn.start;
  fit : AreFit (state_of l.definitions);
  runs : run (text_of l.fn.start) (version_of l.fn.start) empty (pieces_left l.fn.start) ≡ run (text_of l.fn.start) (version_of l.fn.start) (state_of l.definitions) (pieces_left l.rest.cutter);
  line : closing_of l.rest ≡ closing_line (pieces_left l.fn.start);
}

abbrev pub decreases-statements : goal.decreases-statements
decreases-statements l = length (pieces_left l.rest.cutter)
