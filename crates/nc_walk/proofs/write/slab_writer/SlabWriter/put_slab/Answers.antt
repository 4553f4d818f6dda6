use Rattle.nc_walk.proofs.Prelude.{arith, length-take, length-drop, up-then}
use Rattle.nc_walk.proofs.write.slab_writer.SlabWriter.put_slab.Goals as goal

pub returns : goal.returns
returns g c = grind (arith, length-take, length-drop, up-then)
