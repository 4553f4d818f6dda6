use Rattle.cdl_parse.proofs.Prelude.{◌≡◌, ◌-◌, length, true, false, dimensions_said, words, is_done, offset_of, text_of, version_of, completes, DimensionName, add_dim, in_turn}
use Rattle.cdl_parse.proofs.dimension_list.read_dimensions.Given as goal

abbrev pub invariant-dimensions : goal.invariant-dimensions
invariant-dimensions l = record {
  text : text_of l.cutter ≡ text_of l.fn.start;
  version : version_of l.cutter ≡ l.version;
  goes : is_done l.cutter ≡ false;
  shaped : completes DimensionName (words l.cutter) ≡ true;
  rest : in_turn (add_dim l.version) l.dims (dimensions_said l.version (words l.cutter)) ≡ in_turn (add_dim l.version) l.fn.dims (dimensions_said l.version (words l.fn.start));
}

abbrev pub decreases-dimensions : goal.decreases-dimensions
decreases-dimensions l = length (text_of l.cutter) - offset_of l.cutter
