use Rattle.cdl_values.proofs.Prelude.{words, is_done, offset_of, text_of, version_of, values, packed, joined, ◌≡◌, ◌-◌, length, false, Ok}
use Rattle.cdl_values.proofs.packing.pack.Given as goal

abbrev pub invariant-tokens : goal.invariant-tokens
invariant-tokens l = record {
  text : text_of l.cutter ≡ text_of l.fn.start;
  version : version_of l.cutter ≡ version_of l.fn.start;
  goes : is_done l.cutter ≡ false;
  rest : joined (Ok l.array) (packed l.form l.left (values l.version (words l.cutter))) ≡ packed l.form l.fn.capacity (values l.version (words l.fn.start));
}

abbrev pub decreases-tokens : goal.decreases-tokens
decreases-tokens l = length (text_of l.cutter) - offset_of l.cutter
