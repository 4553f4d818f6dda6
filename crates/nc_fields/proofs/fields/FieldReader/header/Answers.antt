use Rattle.nc_fields.proofs.Prelude.{header_by}
use Rattle.nc_fields.proofs.Elements.{failed, checked-chain, checked-err, part-then, part-stops, checked-done}
use Rattle.nc_fields.proofs.fields.FieldReader.header.Goals as goal

pub returns-in_err-version : goal.returns-in_err-version
unfolding header_by
returns-in_err-version g c = failed c.from_residual.ensures.1 (checked-err c.in_err-version.ensures)

pub returns-in_err-numrecs : goal.returns-in_err-numrecs
unfolding header_by
returns-in_err-numrecs g c = failed c.from_residual-in_err-numrecs.ensures.1 (checked-chain c.in_ok-version.ensures (part-stops c.in_err-numrecs.ensures))

pub returns-in_err-dims : goal.returns-in_err-dims
unfolding header_by
returns-in_err-dims g c = failed c.from_residual-in_err-dims.ensures.1 (checked-chain c.in_ok-version.ensures (part-then c.in_ok-numrecs.ensures (part-stops c.in_err-dims.ensures)))

pub returns-in_err-gatts : goal.returns-in_err-gatts
unfolding header_by
returns-in_err-gatts g c = failed c.from_residual-in_err-gatts.ensures.1 (checked-chain c.in_ok-version.ensures (part-then c.in_ok-numrecs.ensures (part-then c.in_ok-dims.ensures (part-stops c.in_err-gatts.ensures))))

pub returns-in_err-vars : goal.returns-in_err-vars
unfolding header_by
returns-in_err-vars g c = failed c.from_residual-in_err-vars.ensures.1 (checked-chain c.in_ok-version.ensures (part-then c.in_ok-numrecs.ensures (part-then c.in_ok-dims.ensures (part-then c.in_ok-gatts.ensures (part-stops (rw c.as_slice.ensures at c.in_err-vars.ensures))))))

pub returns : goal.returns
unfolding header_by
returns g c = checked-chain c.in_ok-version.ensures (part-then c.in_ok-numrecs.ensures (part-then c.in_ok-dims.ensures (part-then c.in_ok-gatts.ensures (part-then (rw c.as_slice.ensures at c.in_ok-vars.ensures) checked-done))))
