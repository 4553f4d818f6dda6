use Rattle.nc_fields.proofs.Prelude.{refl}
use Rattle.nc_fields.proofs.Checks.{failed, listed-whole, listed-memory, listed-cut}
use Rattle.nc_fields.proofs.Numbers.{number-listed}
use Rattle.nc_fields.proofs.fields.FieldReader.number.Goals as goal

pub returns-in_err-n : goal.returns-in_err-n
returns-in_err-n g c = failed c.from_residual.ensures.1 (listed-cut (number-listed c.args.width c.requires) c.pending_field-start.ensures c.len.ensures c.read_number.ensures c.in_err-n.ensures)

pub returns-in_err-list : goal.returns-in_err-list
returns-in_err-list g c = failed c.from_residual-in_err-list.ensures.1 (listed-memory c.read_number.ensures c.in_ok-n.ensures.0)

pub returns : goal.returns
returns g c = listed-whole (number-listed c.args.width c.requires) c.pending_field-start.ensures c.len.ensures c.read_number.ensures c.in_ok-n.ensures refl c.in_ok-list.ensures
