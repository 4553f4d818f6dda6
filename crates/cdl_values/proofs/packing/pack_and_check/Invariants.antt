use Rattle.cdl_values.proofs.Prelude.{words, after, is_done, offset_of, text_of, version_of, first_bad, completes, values, packed, joined, ◌≡◌, ◌-◌, length, true, false, Ok}
use Rattle.cdl_statements.specs.declared.due.Due.TheVariants.{Value}
use Rattle.cdl_values.proofs.packing.pack_and_check.Given as goal

abbrev pub invariant-tokens : goal.invariant-tokens
invariant-tokens l = record {
  text : text_of l.unread.cutter ≡ text_of l.fn.start;
  version : version_of l.unread.cutter ≡ version_of l.fn.start;
  goes : is_done l.unread.cutter ≡ false;
  bad : first_bad l.version (words l.unread.cutter) ≡ first_bad l.version (words l.fn.start);
  shaped : completes l.due (words l.unread.cutter) ≡ completes (Value true) (words l.fn.start);
  packs : joined (Ok l.array) (packed l.form l.unread.capacity (values l.version (words l.unread.cutter))) ≡ packed l.form l.fn.capacity (values l.version (words l.fn.start));
  rest : after l.unread.cutter ≡ after l.fn.start;
}

abbrev pub decreases-tokens : goal.decreases-tokens
decreases-tokens l = length (text_of l.unread.cutter) - offset_of l.unread.cutter
