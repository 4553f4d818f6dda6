use Rattle.cdl_statements.proofs.Prelude.{◌≡◌, ◌-◌, length, false, first_bad, completes, words, after, is_done, offset_of, text_of, version_of}
use Rattle.cdl_statements.proofs.shape_check.pass_statement.Given as goal

abbrev pub invariant-tokens : goal.invariant-tokens
invariant-tokens l = record {
  text : text_of l.cutter ≡ text_of l.fn.start;
  version : version_of l.cutter ≡ version_of l.fn.start;
  goes : is_done l.cutter ≡ false;
  bad : first_bad l.version (words l.cutter) ≡ first_bad l.version (words l.fn.start);
  shaped : completes l.due (words l.cutter) ≡ completes l.fn.first (words l.fn.start);
  rest : after l.cutter ≡ after l.fn.start;
}

abbrev pub decreases-tokens : goal.decreases-tokens
decreases-tokens l = length (text_of l.cutter) - offset_of l.cutter
