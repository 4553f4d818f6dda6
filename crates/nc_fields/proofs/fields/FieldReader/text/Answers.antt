use Rattle.nc_fields.proofs.Prelude.{refl, ap, ◌∙◌}
use Rattle.nc_findings.specs.declared.entry.Content.TheVariants as content
use Rattle.nc_fields.proofs.Checks.{failed, listed-whole, listed-memory, listed-cut}
use Rattle.nc_fields.proofs.Texts.{filling-listed}
use Rattle.nc_fields.proofs.fields.FieldReader.text.Goals as goal

pub returns-in_err-text : goal.returns-in_err-text
returns-in_err-text g c = failed c.from_residual.ensures.1 (listed-cut (filling-listed c.args.n c.requires) c.pending_field-start.ensures refl c.bytes.ensures.read c.in_err-text.ensures)

pub returns-in_err-copy : goal.returns-in_err-copy
returns-in_err-copy g c = failed c.from_residual-in_err-copy.ensures.1 (listed-memory c.bytes.ensures.read c.in_ok-text.ensures.0)

pub returns-in_err-list : goal.returns-in_err-list
returns-in_err-list g c = failed c.from_residual-in_err-list.ensures.1 (listed-memory c.bytes.ensures.read c.in_ok-text.ensures.0)

pub returns : goal.returns
returns g c = listed-whole (filling-listed c.args.n c.requires) c.pending_field-start.ensures refl c.bytes.ensures.read c.in_ok-text.ensures (ap content.Bytes (c.in_ok-copy.ensures.copy ∙ c.as_slice.ensures)) c.in_ok-list.ensures
