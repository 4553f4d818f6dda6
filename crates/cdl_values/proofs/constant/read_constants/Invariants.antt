use Rattle.cdl_values.proofs.Prelude.{values, words, is_done, offset_of, text_of, version_of, add_constant, in_turn, ◌≡◌, ◌-◌, [], length, false}
use Rattle.cdl_values.proofs.constant.read_constants.Given as goal

abbrev pub invariant-tokens : goal.invariant-tokens
invariant-tokens l = record {
  text : text_of l.cutter ≡ text_of l.fn.start;
  version : version_of l.cutter ≡ version_of l.fn.start;
  goes : is_done l.cutter ≡ false;
  rest : in_turn (add_constant l.fn.ty) l.vals (values l.version (words l.cutter)) ≡ in_turn (add_constant l.fn.ty) [] (values l.version (words l.fn.start));
}

abbrev pub decreases-tokens : goal.decreases-tokens
decreases-tokens l = length (text_of l.cutter) - offset_of l.cutter
