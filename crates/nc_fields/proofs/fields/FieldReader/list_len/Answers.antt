use Rattle.nc_fields.proofs.Prelude.{list_head}
use Rattle.nc_fields.proofs.Elements.{failed, checked-under, part-then, part-stops, steps-along}
use Rattle.nc_fields.proofs.fields.FieldReader.list_len.Goals as goal

pub returns-in_err-found : goal.returns-in_err-found
unfolding list_head
returns-in_err-found g c = failed c.from_residual.ensures.1 (part-stops (steps-along c.tag.ensures.steps c.in_err-found.ensures))

pub returns : goal.returns
unfolding list_head
returns g c =
    part-then (steps-along c.tag.ensures.steps c.in_ok-found.ensures) (checked-under (steps-along c.count.ensures.steps c.list_count.ensures))
