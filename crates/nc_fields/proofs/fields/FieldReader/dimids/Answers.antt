use Rattle.nc_fields.proofs.Prelude.{dimid_part, ap, sym, ◌==◌}
use Rattle.nc_fields.proofs.Elements.{failed, elements-start, elements-err, elements-next, elements-memory, elements-done}
use Rattle.nc_fields.proofs.fields.FieldReader.dimids.Goals as goal

pub loop-i-init : goal.loop-i-init
loop-i-init g c = elements-start c.new-dimids.ensures

pub returns-in_err-id : goal.returns-in_err-id
returns-in_err-id g c = failed c.from_residual.ensures.1 (elements-err c.loop-i-test.true c.loop-i.invariant (ap (λ k. dimid_part c.args.version c.args.dims.now (k == 0)) (sym c.loop-i.invariant.count)) c.in_err-id.ensures)

pub returns-in_err-push : goal.returns-in_err-push
returns-in_err-push g c = failed c.from_residual-in_err-push.ensures.1 (elements-memory c.loop-i-test.true c.loop-i.invariant (ap (λ k. dimid_part c.args.version c.args.dims.now (k == 0)) (sym c.loop-i.invariant.count)) c.in_ok-id.ensures)

pub loop-i-preserved : goal.loop-i-preserved
loop-i-preserved g c = elements-next c.loop-i-test.true c.in_ok-push.ensures.ok c.loop-i.invariant (ap (λ k. dimid_part c.args.version c.args.dims.now (k == 0)) (sym c.loop-i.invariant.count)) c.in_ok-id.ensures

pub returns : goal.returns
returns g c = elements-done c.loop-i-test.false c.loop-i.invariant
