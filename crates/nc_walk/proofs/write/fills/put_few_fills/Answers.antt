use Rattle.nc_walk.proofs.Prelude.{arith}
use Rattle.nc_walk.proofs.Repeats.{few-copies}
use Rattle.nc_walk.proofs.write.fills.put_few_fills.Goals as goal

pub returns : goal.returns
returns g c = rw (few-copies c.args.unit c.as_flattened-buffer.result.now 32 c.args.n (omega arith) (omega arith) c.as_flattened-buffer.ensures.value) c.put.ensures
