use Rattle.nc_fields.proofs.Prelude.{refl}
use Rattle.nc_fields.proofs.Elements.{failed, steps-along, elements-start, elements-err, elements-next, elements-memory, elements-done}
use Rattle.nc_fields.proofs.fields.FieldReader.atts.Goals as goal

pub loop-i-init : goal.loop-i-init
loop-i-init g c = elements-start c.new-atts.ensures

pub returns-in_err-att : goal.returns-in_err-att
returns-in_err-att g c = failed c.from_residual.ensures.1 (elements-err c.loop-i-test.true c.loop-i.invariant refl (steps-along c.item.ensures c.in_err-att.ensures))

pub returns-in_err-push : goal.returns-in_err-push
returns-in_err-push g c = failed c.from_residual-in_err-push.ensures.1 (elements-memory c.loop-i-test.true c.loop-i.invariant refl (steps-along c.item.ensures c.in_ok-att.ensures))

pub loop-i-preserved : goal.loop-i-preserved
loop-i-preserved g c = elements-next c.loop-i-test.true c.in_ok-push.ensures.ok c.loop-i.invariant refl (steps-along c.item.ensures c.in_ok-att.ensures)

pub returns : goal.returns
returns g c = elements-done c.loop-i-test.false c.loop-i.invariant
