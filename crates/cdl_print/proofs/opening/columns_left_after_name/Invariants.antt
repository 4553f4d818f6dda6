use Rattle.cdl_print.proofs.Prelude.{◌≡◌, ◌-◌, column}
use Rattle.cdl_print.proofs.Openings.{name_prefix}
use Rattle.cdl_print.proofs.opening.columns_left_after_name.Given as goal

abbrev pub invariant-loop-b : goal.invariant-loop-b
invariant-loop-b l = l.columns_left ≡ l.width - column (name_prefix l.name l.b-index)
