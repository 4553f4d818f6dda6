use Rattle.nc_file.proofs.Prelude.{false, err_from_is_err_and, up-start, up-next, up-partway, each-left, dim_part, strict, print}
use Rattle.nc_file.proofs.write.dimension.put_dims.Goals as goal

pub loop-dim-init : goal.loop-dim-init
loop-dim-init g c = up-start _ _

pub loop-dim-preserved : goal.loop-dim-preserved
loop-dim-preserved g c =
    up-next _ _ _ _ _ _ _ (each-left (print (dim_part strict c.args.version false)) c.args.dims.now c.loop-dim.dim-index c.dim-item.result c.loop-dim-test.true c.dim-item.is) c.loop-dim.invariant c.in_ok-put_dim.ensures

pub returns-in_err-put_dim : goal.returns-in_err-put_dim
returns-in_err-put_dim g c =
    let p = err_from_is_err_and c.from_residual.result c.from_residual.ensures.1 in
    rw p.1 (up-partway _ _ _ _ _ _ _ (each-left (print (dim_part strict c.args.version false)) c.args.dims.now c.loop-dim.dim-index c.dim-item.result c.loop-dim-test.true c.dim-item.is) c.loop-dim.invariant c.in_err-put_dim.ensures)
