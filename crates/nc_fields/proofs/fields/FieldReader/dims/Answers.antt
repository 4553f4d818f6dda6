use Rattle.nc_fields.proofs.Prelude.{dim_part, has_record_dim, has_record-next, lenient, ap, rules, sym}
use Rattle.nc_fields.proofs.Elements.{failed, elements-start, elements-err, elements-next, elements-memory, elements-done}
use Rattle.nc_fields.proofs.fields.FieldReader.dims.Goals as goal

pub loop-i-init : goal.loop-i-init
loop-i-init g c = record { elements = elements-start c.new-dims.ensures; has_record = ap has_record_dim (sym c.new-dims.ensures) }

pub returns-in_err-dim : goal.returns-in_err-dim
returns-in_err-dim g c = failed c.from_residual.ensures.1 (elements-err c.loop-i-test.true c.loop-i.invariant.elements (ap (dim_part lenient c.args.version) c.loop-i.invariant.has_record) c.in_err-dim.ensures)

pub returns-in_err-push : goal.returns-in_err-push
returns-in_err-push g c = failed c.from_residual-in_err-push.ensures.1 (elements-memory c.loop-i-test.true c.loop-i.invariant.elements (ap (dim_part lenient c.args.version) c.loop-i.invariant.has_record) c.in_ok-dim.ensures)

pub loop-i-preserved : goal.loop-i-preserved
loop-i-preserved g c =
    record { elements = elements-next c.loop-i-test.true c.in_ok-push.ensures.ok c.loop-i.invariant.elements (ap (dim_part lenient c.args.version) c.loop-i.invariant.has_record) c.in_ok-dim.ensures; has_record = search (rules, has_record-next) }

pub returns : goal.returns
returns g c = elements-done c.loop-i-test.false c.loop-i.invariant.elements
