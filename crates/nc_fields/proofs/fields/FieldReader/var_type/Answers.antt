use Rattle.nc_fields.proofs.Prelude.{is_within_limits, number, type_part, within, TooLarge, refl, sym, ◌∙◌}
use Rattle.nc_fields.proofs.Elements.{checked-passes}
use Rattle.nc_fields.proofs.fields.FieldReader.var_type.Goals as goal

pub returns-clause-var_type : goal.returns-clause-var_type
unfolding number type_part
returns-clause-var_type g c =
    let total = sym c.in_ok-total.ensures.ok_part ∙ c.total_with.ensures.value in
    checked-passes (is_within_limits c.args.dims.now c.args.total c.args.dimids.now) TooLarge refl (within _ _ _ _ _ total) c.in_ok-ty.ensures
