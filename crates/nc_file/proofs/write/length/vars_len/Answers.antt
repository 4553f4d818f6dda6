use Rattle.nc_file.proofs.Prelude.{[], arith}
use Rattle.nc_file.proofs.HeaderLen.{all-added, vars-len}
use Rattle.nc_file.proofs.write.length.vars_len.Goals as goal

pub returns : goal.returns
returns c = all-added _ c.args.vars.now c.loop-var.var-index _ _ _ _ (omega arith) c.loop-var.invariant (vars-len c.args.version [] c.args.vars.now)
