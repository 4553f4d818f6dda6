use Rattle.cdl_parse.proofs.Prelude.{List, ◌∙◌, ap, sym, is_some, Att, any_is, att_names, has_attribute, position_of}
use Rattle.cdl_parse.proofs.attributes.Attributes.has_name.Goals as goal

pub returns : goal.returns
returns c =
    let name = c.args.name.now in
    c.is_some.ensures ∙ ap is_some (c.find.ensures ∙ ap (λ (atts : List Att). position_of (att_names atts) name) c.as_slice.ensures.value) ∙ sym (any_is (λ (a : Att). a.name) name c.self.inside.list.items) ∙ ap (has_attribute name) c.self.view_is
