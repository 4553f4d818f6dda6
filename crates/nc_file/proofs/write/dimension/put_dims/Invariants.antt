use Rattle.nc_file.proofs.Prelude.{drop, false, flat_map, UpTo, dim_part, strict, print}
use Rattle.nc_file.proofs.write.dimension.put_dims.Given as goal

abbrev pub invariant-loop-dim : goal.invariant-loop-dim
invariant-loop-dim g l = UpTo (g.W.Sink.view l.fn.sink) (g.W.Sink.view l.sink) (flat_map (print (dim_part strict l.version false)) l.dims) (flat_map (print (dim_part strict l.version false)) (drop l.dim-index l.dims))
