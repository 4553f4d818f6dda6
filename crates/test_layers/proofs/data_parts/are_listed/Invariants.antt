use Rattle.std.proofs.Common.{take}
use Rattle.nc_base.specs.GeneratedFile.{known_records}
use Rattle.nc_base.specs.code.OwedValues.{AreListed}
use Rattle.test_layers.proofs.data_parts.are_listed.Given as goal

abbrev pub invariant-loop-v : goal.invariant-loop-v
invariant-loop-v l = AreListed l.header.dims (known_records l.header.numrecs) (take l.v l.header.vars) (take l.v l.arrays)
