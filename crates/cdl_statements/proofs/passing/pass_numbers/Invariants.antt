use Rattle.cdl_statements.proofs.Prelude.{◌-◌, length, offset_of, reached, text_of, PassesValues}
use Rattle.cdl_statements.proofs.passing.pass_numbers.Given as goal

abbrev pub invariant-numbers : goal.invariant-numbers
invariant-numbers l = record {
  so : PassesValues l.takes_fill l.fn.start (reached l.list);
}

abbrev pub decreases-numbers : goal.decreases-numbers
decreases-numbers l = length (text_of (reached l.list)) - offset_of (reached l.list)
