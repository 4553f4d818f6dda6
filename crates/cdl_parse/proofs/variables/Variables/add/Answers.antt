use Rattle.cdl_parse.proofs.Prelude.{rules, ◌≡◌, ◌∙◌, ap, sym, not, is_new, is_variable_name, variable_names}
use Rattle.cdl_parse.proofs.DraftNames.{taken_is}
use Rattle.cdl_parse.proofs.variables.Variables.add.Goals as goal

pub returns-in_ok-push-clause-new : goal.returns-in_ok-push-clause-new
returns-in_ok-push-clause-new c =
    let new : c.in_ok-added.added ≡ is_new (variable_names c.self.inside.list.items) c.args.name.items = search rules in
    new ∙ ap not (sym (taken_is c.self.inside.list.items c.args.name.items)) ∙ ap (λ drafts. not (is_variable_name c.args.name.items drafts)) c.self.view_is

pub returns-else-added-clause-new : goal.returns-else-added-clause-new
returns-else-added-clause-new c =
    let new : c.in_ok-added.added ≡ is_new (variable_names c.self.inside.list.items) c.args.name.items = search rules in
    new ∙ ap not (sym (taken_is c.self.inside.list.items c.args.name.items)) ∙ ap (λ drafts. not (is_variable_name c.args.name.items drafts)) c.self.view_is
