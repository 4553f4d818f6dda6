use Rattle.nc_walk.proofs.Prelude.{◌≡◌, ◌++◌, drop, record_slabs}
use Rattle.nc_walk.proofs.write.record_slab.record_slabs.Given as goal

abbrev pub invariant-loop-v : goal.invariant-loop-v
invariant-loop-v l = l.slabs ++ record_slabs l.v l.header.dims (drop l.v l.header.vars) ≡ record_slabs 0 l.header.dims l.header.vars
