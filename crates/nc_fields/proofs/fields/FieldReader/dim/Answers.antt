use Rattle.nc_fields.proofs.Prelude.{dim_part}
use Rattle.nc_fields.proofs.Elements.{failed, part-then, part-stops}
use Rattle.nc_fields.proofs.fields.FieldReader.dim.Goals as goal

pub returns-in_err-len : goal.returns-in_err-len
unfolding dim_part
returns-in_err-len g c = failed c.from_residual-in_err-len.ensures.1 (part-then c.in_ok-name.ensures (part-stops c.in_err-len.ensures))
