use Rattle.nc_fields.proofs.Prelude.{refl}
use Rattle.nc_fields.proofs.Checks.{failed, listed-whole, listed-memory, listed-cut}
use Rattle.nc_fields.proofs.Texts.{version-listed}
use Rattle.nc_fields.proofs.fields.FieldReader.version_byte.Goals as goal

pub returns-in_err-byte : goal.returns-in_err-byte
returns-in_err-byte g c = failed c.from_residual.ensures.1 (listed-cut version-listed (rw c.field-place.ensures at c.pending_field-start.ensures) refl c.array.ensures c.in_err-byte.ensures)

pub returns-in_err-list : goal.returns-in_err-list
returns-in_err-list g c = failed c.from_residual-in_err-list.ensures.1 (listed-memory c.array.ensures c.in_ok-byte.ensures.0)

pub returns : goal.returns
returns g c = listed-whole version-listed (rw c.field-place.ensures at c.pending_field-start.ensures) refl c.array.ensures c.in_ok-byte.ensures refl c.in_ok-list.ensures
