use Rattle.cdl_statements.proofs.Prelude.{sym, ◌∙◌, lexeme_of}
use Rattle.cdl_statements.proofs.PassedValues.{further, token_on}
use Rattle.cdl_statements.proofs.passing.pass_list.Goals as goal

-- the value of the token alone
pub returns-then-not-may_precede_plain : goal.returns-then-not-may_precede_plain
returns-then-not-may_precede_plain c =
    let a = c.args in
    token_on a.takes_fill c.version.result a.start c.token_and_comma.new.self (lexeme_of c.in-Some.token) c.token_fault.result c.version.ensures c.requires c.in-Some.ensures.passes c.token_fault.ensures
    (sym c.is_some.ensures ∙ c.if-is_some.false) (sym c.is_value.ensures ∙ c.if-not-is_value.false)

-- and plain numbers after it
pub returns : goal.returns
returns c =
    let a = c.args in
    let rest = c.token_and_comma.new.self in
    let one = token_on a.takes_fill c.version.result a.start rest (lexeme_of c.in-Some.token) c.token_fault.result c.version.ensures c.requires c.in-Some.ensures.passes c.token_fault.ensures
    (sym c.is_some.ensures ∙ c.if-is_some.false) (sym c.is_value.ensures ∙ c.if-not-is_value.false) in
    further a.takes_fill a.start rest c.pass_numbers.result one c.pass_numbers.ensures
