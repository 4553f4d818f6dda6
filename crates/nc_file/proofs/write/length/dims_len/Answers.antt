use Rattle.nc_file.proofs.Prelude.{arith}
use Rattle.nc_file.proofs.HeaderLen.{all-added, dims-len}
use Rattle.nc_file.proofs.write.length.dims_len.Goals as goal

pub returns : goal.returns
returns c = all-added _ c.args.dims.now c.loop-dim.dim-index _ _ _ _ (omega arith) c.loop-dim.invariant (dims-len c.args.version c.args.dims.now)
