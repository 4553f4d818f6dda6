use Rattle.nc_fields.proofs.Prelude.{OutOfMemory, refl, Ok, Err, []}
use Rattle.nc_fields.proofs.Checks.{failed, listed-whole, listed-memory, listed-cut}
use Rattle.nc_fields.proofs.Texts.{filling-listed, ignored-checked}
use Rattle.nc_fields.proofs.fields.FieldReader.filling.Goals as goal

pub returns-in_err-filling : goal.returns-in_err-filling
returns-in_err-filling g c = failed c.from_residual.ensures.1 (ignored-checked [] (Err _) (listed-cut (filling-listed c.args.n c.requires) c.pending_field-start.ensures refl c.filling_bytes.ensures c.in_err-filling.ensures))

pub returns-in_err-list : goal.returns-in_err-list
returns-in_err-list g c = failed c.from_residual-in_err-list.ensures.1 (ignored-checked [] (Err OutOfMemory) (listed-memory c.filling_bytes.ensures c.in_ok-filling.ensures.0))

pub returns : goal.returns
returns g c =
    ignored-checked _ (Ok tt) (listed-whole (filling-listed c.args.n c.requires) c.pending_field-start.ensures refl c.filling_bytes.ensures c.in_ok-filling.ensures refl c.in_ok-list.ensures)
