use Rattle.cdl_values.proofs.Prelude.{IsAtComma, capacity_minus, TakesValues, place, Numbers, ◌-◌, ◌≤◌}
use Rattle.cdl_statements.specs.code.ValueLists as lists
use Rattle.cdl_values.proofs.ValueRuns.{reached}
use Rattle.cdl_values.proofs.value_run.take_numbers_of_type.Given as goal

abbrev pub invariant-numbers : goal.invariant-numbers
invariant-numbers l = record {
  within : l.left ≤ l.room;
  at : IsAtComma (lists.reached l.list);
  so : TakesValues (Numbers l.fn.fill) (place l.fn.start l.fn.array) (reached (lists.reached l.list) l.array (capacity_minus (l.room - l.left) l.fn.start.capacity));
}

abbrev pub decreases-numbers : goal.decreases-numbers
decreases-numbers l = l.left
