use Rattle.cdl_values.proofs.Prelude.{IsAtComma, Rows, ◌-◌}
use Rattle.cdl_statements.specs.code.ValueLists as lists
use Rattle.cdl_values.specs.code.ValueRuns.{TakesRows, list_place}
use Rattle.cdl_values.proofs.value_run.put_rows.Given as goal

abbrev pub invariant-rows : goal.invariant-rows
invariant-rows l = record {
  at : IsAtComma (lists.reached l.list);
  so : TakesRows l.room (Rows l.fn.len l.fn.fill) (list_place l.fn.list l.fn.array) (list_place l.list l.array) l.count;
}

abbrev pub decreases-rows : goal.decreases-rows
decreases-rows l = l.room - l.count
