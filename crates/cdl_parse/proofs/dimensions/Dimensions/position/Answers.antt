use Rattle.cdl_parse.proofs.Prelude.{List, ◌∙◌, ap, position, bytes_eq, Dim, dim_names, position_of}
use Rattle.cdl_parse.proofs.DimensionPositions.{position_is}
use Rattle.cdl_parse.proofs.dimensions.Dimensions.position.Goals as goal

pub returns : goal.returns
returns c =
    let name = c.args.name.now in
    c.find.ensures ∙ ap (λ (dims : List Dim). position_of (dim_names dims) name) c.as_slice.ensures.value ∙ position_is c.self.inside.list.items name ∙ ap (position (λ (d : Dim). bytes_eq d.name name)) c.self.view_is
