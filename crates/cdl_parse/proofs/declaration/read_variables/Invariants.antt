use Rattle.cdl_parse.proofs.Prelude.{◌≡◌, ◌-◌, length, false, is_done, offset_of, text_of, words, added, read_on}
use Rattle.cdl_parse.proofs.declaration.read_variables.Given as goal

abbrev pub invariant-tokens : goal.invariant-tokens
invariant-tokens l = record {
  text : text_of l.cutter ≡ text_of l.fn.start;
  goes : is_done l.cutter ≡ false;
  rest : added l.dims l.fn.ty l.fn.variables (words l.fn.start) ≡ read_on l.dims l.variables l.begun (words l.cutter);
}

abbrev pub decreases-tokens : goal.decreases-tokens
decreases-tokens l = length (text_of l.cutter) - offset_of l.cutter
