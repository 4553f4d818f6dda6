use Rattle.cdl_values.proofs.Prelude.{IsAtComma, offset_of, text_of, version_of, ◌≡◌, ◌-◌, length}
use Rattle.cdl_statements.specs.code.ValueLists as lists
use Rattle.cdl_values.specs.code.TokenValues.{MovesOn, constants_on}
use Rattle.cdl_values.proofs.constant.take_plain_constants.Given as goal

abbrev pub invariant-numbers : goal.invariant-numbers
invariant-numbers l = record {
  at : IsAtComma (lists.reached l.list);
  moves : MovesOn l.fn.start (lists.reached l.list);
  adds : constants_on l.ty (version_of l.fn.start) l.vals (lists.reached l.list) ≡ constants_on l.ty (version_of l.fn.start) l.fn.vals l.fn.start;
}

abbrev pub decreases-numbers : goal.decreases-numbers
decreases-numbers l = length (text_of (lists.reached l.list)) - offset_of (lists.reached l.list)
