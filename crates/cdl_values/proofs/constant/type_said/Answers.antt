use Rattle.cdl_values.proofs.Prelude.{value_of, lexeme_of, sym, rules}
use Rattle.cdl_values.proofs.ConstantBytes.{no_number}
use Rattle.cdl_values.proofs.constant.type_said.Goals as goal

pub returns-in-Number : goal.returns-in-Number
unfolding value_of
returns-in-Number c = search rules

pub returns-in_default : goal.returns-in_default
returns-in_default c = sym (no_number c.args.version (lexeme_of c.args.token) c.args.token.kind c.in_default.not-Number)
