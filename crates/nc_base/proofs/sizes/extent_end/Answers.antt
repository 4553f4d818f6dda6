use Rattle.nc_base.proofs.Extents.{extent-found}
use Rattle.nc_base.proofs.sizes.extent_end.Goals as goal

pub returns : goal.returns
returns c = extent-found c.args.header.now c.args.v c.args.records _ c.requires.sound c.extent_sum.ensures
