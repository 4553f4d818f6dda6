use Rattle.cdl_parse.proofs.Prelude.{rules, sym, subst, lexeme_of, ContinuesRead, read_on, PartialVariable, stopped}
use Rattle.cdl_values.proofs.PackedTokens.{no_mark}
use Rattle.cdl_parse.proofs.DeclarationReads.{dimension_on, next_fails, next_variable}
use Rattle.cdl_parse.proofs.declaration.read_on.Goals as goal

pub returns-in_default : goal.returns-in_default
returns-in_default c = λ ls. search (rules, no_mark, dimension_on)

pub returns-in_ok-add_variable-in_default-2 : goal.returns-in_ok-add_variable-in_default-2
returns-in_ok-add_variable-in_default-2 c = λ ls.
    let a = c.args in
    let l = lexeme_of a.token in
    let after = c.add_variable.new.variables in
    subst (ContinuesRead (λ (b : PartialVariable). read_on a.dims.now after b ls) c.new_variable.result) (sym (next_variable a.dims.now a.variables.now a.begun after l ls (no_mark l.kind c.in_default.not-Mark) c.if-begun.false c.in_ok-add_variable-in_default-2.ensures))
    (c.new_variable.ensures a.dims.now after ls)

pub returns-in_err-add_variable-in_default-2 : goal.returns-in_err-add_variable-in_default-2
returns-in_err-add_variable-in_default-2 c = λ ls. search (rules, stopped, no_mark, next_fails)
