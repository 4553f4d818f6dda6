use Rattle.nc_file.proofs.Prelude.{err_from_is_err_and, up-start, up-next, up-partway, each-left, att_part, strict, print}
use Rattle.nc_file.proofs.write.attribute.put_atts.Goals as goal

pub loop-att-init : goal.loop-att-init
loop-att-init g c = up-start _ _

pub loop-att-preserved : goal.loop-att-preserved
loop-att-preserved g c =
    up-next _ _ _ _ _ _ _ (each-left (print (att_part strict c.args.version)) c.args.atts.now c.loop-att.att-index c.att-item.result c.loop-att-test.true c.att-item.is) c.loop-att.invariant c.in_ok-put_att.ensures

pub returns-in_err-put_att : goal.returns-in_err-put_att
returns-in_err-put_att g c =
    let p = err_from_is_err_and c.from_residual.result c.from_residual.ensures.1 in
    rw p.1 (up-partway _ _ _ _ _ _ _ (each-left (print (att_part strict c.args.version)) c.args.atts.now c.loop-att.att-index c.att-item.result c.loop-att-test.true c.att-item.is) c.loop-att.invariant c.in_err-put_att.ensures)
