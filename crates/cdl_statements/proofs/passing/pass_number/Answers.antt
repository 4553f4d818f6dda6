use Rattle.cdl_statements.proofs.Prelude.{Bool, sym, subst, reached, PassesValues, ValueList, PassesUnderscore}
use Rattle.cdl_statements.proofs.PassedValues.{number_on, underscore_on}
use Rattle.cdl_statements.proofs.passing.pass_number.Goals as goal

pub returns-in-Some-clause-passes : goal.returns-in-Some-clause-passes
returns-in-Some-clause-passes c = λ _. number_on c.args.takes_fill (reached c.args.list.now) (reached c.number_and_comma.new.self) c.in-Some.field-0 c.requires c.in-Some.ensures.passes

pub returns-then-takes_fill-clause-passes : goal.returns-then-takes_fill-clause-passes
returns-then-takes_fill-clause-passes c = λ taken.
    let start = reached c.args.list.now in
    let rest = reached c.underscore_and_comma.new.self in
    let passes = subst (λ (l : ValueList). PassesUnderscore (reached l) rest) (c.number_and_comma.ensures.stays c.in-None.is) (c.underscore_and_comma.ensures.passes taken) in
    subst (λ (takes : Bool). PassesValues takes start rest) (sym c.if-takes_fill.true) (underscore_on start rest c.requires passes)
