use Rattle.nc_file.proofs.Prelude.{err_from_is_err_and, up-start, up-next, up-partway, each-left, var_part, strict, print}
use Rattle.nc_file.proofs.write.variable.put_vars.Goals as goal

pub loop-var-init : goal.loop-var-init
loop-var-init g c = up-start _ _

pub loop-var-preserved : goal.loop-var-preserved
loop-var-preserved g c =
    up-next _ _ _ _ _ _ _ (each-left (print (var_part strict c.args.version c.args.dims.now 0)) c.args.vars.now c.loop-var.var-index c.var-item.result c.loop-var-test.true c.var-item.is) c.loop-var.invariant c.in_ok-put_var.ensures

pub returns-in_err-put_var : goal.returns-in_err-put_var
returns-in_err-put_var g c =
    let p = err_from_is_err_and c.from_residual.result c.from_residual.ensures.1 in
    rw p.1 (up-partway _ _ _ _ _ _ _ (each-left (print (var_part strict c.args.version c.args.dims.now 0)) c.args.vars.now c.loop-var.var-index c.var-item.result c.loop-var-test.true c.var-item.is) c.loop-var.invariant c.in_err-put_var.ensures)
