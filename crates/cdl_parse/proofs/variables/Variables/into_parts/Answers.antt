use Rattle.cdl_parse.proofs.Prelude.{ap, sym, ◌∙◌, subst, IsIndex, var_names}
use Rattle.cdl_parse.proofs.DraftNames.{fresh_is, header_names}
use Rattle.cdl_parse.proofs.variables.Variables.into_parts.Goals as goal

pub returns-clause-vars : goal.returns-clause-vars
returns-clause-vars c = fresh_is c.self.inside.list.items c.from_vec.result c.args.self (c.from_vec.ensures ∙ c.in_ok-vars.ensures) c.self.view_is

pub returns-clause-names : goal.returns-clause-names
returns-clause-names c = subst (IsIndex c.self.inside.names) (header_names c.self.inside.list.items ∙ ap var_names (sym (c.from_vec.ensures ∙ c.in_ok-vars.ensures))) c.self.invariant
