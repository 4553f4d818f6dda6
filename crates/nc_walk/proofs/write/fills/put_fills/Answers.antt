use Rattle.nc_walk.proofs.Prelude.{arith}
use Rattle.nc_walk.proofs.Repeats.{repeated-short}
use Rattle.nc_walk.proofs.write.fills.put_fills.Goals as goal

pub returns-then-n-le8 : goal.returns-then-n-le8
returns-then-n-le8 g c = grind (arith, repeated-short)
