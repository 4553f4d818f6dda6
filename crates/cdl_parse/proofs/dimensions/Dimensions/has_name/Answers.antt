use Rattle.cdl_parse.proofs.Prelude.{◌∙◌, ap, sym, is_some, Dim, any_is}
use Rattle.cdl_parse.proofs.DimensionPositions.{position_is}
use Rattle.cdl_parse.proofs.dimensions.Dimensions.has_name.Goals as goal

pub returns : goal.returns
returns c =
    let dims = c.args.self.now in
    let name = c.args.name.now in
    c.is_some.ensures ∙ ap is_some (c.position.ensures ∙ sym (position_is dims name)) ∙ sym (any_is (λ (d : Dim). d.name) name dims)
