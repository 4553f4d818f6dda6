use Rattle.cdl_values.proofs.Prelude.{offset_of, text_of, version_of, IsAtComma, TakesValues, place, ◌-◌, ◌≡◌, length}
use Rattle.cdl_values.proofs.value_run.take_values.Given as goal

abbrev pub invariant-values : goal.invariant-values
invariant-values l = record {
  at : IsAtComma l.unread.cutter;
  version : l.version ≡ version_of l.unread.cutter;
  so : TakesValues l.form (place l.fn.start l.fn.array) (place l.unread l.array);
}

abbrev pub decreases-values : goal.decreases-values
decreases-values l = length (text_of l.unread.cutter) - offset_of l.unread.cutter
