use Rattle.nc_fields.proofs.Prelude.{err_from_is_err_and, in_place, refl, ap}
use Rattle.nc_findings.specs.declared.entry.Content.TheVariants as content
use Rattle.nc_fields.proofs.Checks.{listed-whole, listed-memory, listed-cut}
use Rattle.nc_fields.proofs.Texts.{values-listed}
use Rattle.nc_fields.proofs.Passed.{cut-in-place, last-of}
use Rattle.nc_fields.proofs.fields.FieldReader.values.Goals as goal

pub returns-in_err-ends_with_nul : goal.returns-in_err-ends_with_nul
returns-in_err-ends_with_nul g c =
    let p = err_from_is_err_and c.from_residual.result c.from_residual.ensures.1 in
    let passed = c.pass_values-passed.ensures in
    rw (p.1, p.2)
    (record { vals = passed.vals; whole = tt; checked = listed-cut values-listed (rw c.field-place.ensures at c.pending_field-start.ensures) refl passed.reads (cut-in-place passed.vals _ _ _ _ _ c.in_err-ends_with_nul.ensures) })

pub returns-in_err-list : goal.returns-in_err-list
returns-in_err-list g c =
    let p = err_from_is_err_and c.from_residual-in_err-list.result c.from_residual-in_err-list.ensures.1 in
    let passed = c.pass_values-passed.ensures in
    rw (p.1, p.2) (record { vals = passed.vals; whole = tt; checked = listed-memory passed.reads (ap (in_place passed.vals) c.in_ok-ends_with_nul.ensures.0) })

pub returns : goal.returns
returns g c =
    let passed = c.pass_values-passed.ensures in
    let answer = c.in_ok-ends_with_nul.ensures in
    record {
      vals = passed.vals;
      whole = rw answer.0 at passed.whole;
      checked = listed-whole values-listed (rw c.field-place.ensures at c.pending_field-start.ensures) refl passed.reads (ap (in_place passed.vals) answer.0, answer.1) (ap content.Values (last-of passed.vals _ _ answer.0 passed.last)) c.in_ok-list.ensures;
    }
