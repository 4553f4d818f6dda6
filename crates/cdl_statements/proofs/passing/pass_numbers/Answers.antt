use Rattle.cdl_statements.proofs.Prelude.{subst, SamePlace, reached, ValueList, rules}
use Rattle.cdl_statements.proofs.PassedValues.{ended_at, stays}
use Rattle.cdl_statements.proofs.passing.pass_numbers.Goals as goal

pub numbers-init : goal.numbers-init
numbers-init c = search (rules, ended_at, stays)

pub returns : goal.returns
returns c =
    let a = c.args in
    let same = subst (λ (l : ValueList). SamePlace c.cutter.result (reached l)) (c.pass_number.ensures.stays c.numbers-test.false) c.cutter.ensures in
    ended_at a.takes_fill a.start (reached c.numbers.list) c.cutter.result same c.numbers.invariant.so
