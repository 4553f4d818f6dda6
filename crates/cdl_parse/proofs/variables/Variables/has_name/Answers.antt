use Rattle.cdl_parse.proofs.Prelude.{List, ◌∙◌, ap, sym, is_some, is_variable_name, position_of, Variable, variable_names}
use Rattle.cdl_parse.proofs.DraftNames.{taken_is}
use Rattle.cdl_parse.proofs.variables.Variables.has_name.Goals as goal

pub returns : goal.returns
returns c =
    let name = c.args.name.now in
    c.is_some.ensures ∙ ap is_some (c.find.ensures ∙ ap (λ (items : List Variable). position_of (variable_names items) name) c.as_slice.ensures.value) ∙ sym (taken_is c.self.inside.list.items name) ∙ ap (is_variable_name name) c.self.view_is
