use Rattle.nc_file.proofs.Prelude.{◌≡◌, has_record_dim, dim_after, strict}
use Rattle.nc_file.proofs.Elements.{ReadsOn}
use Rattle.nc_file.proofs.read.dimension.read_dims.Given as goal

abbrev pub invariant-loop : goal.invariant-loop
invariant-loop g l = record {
  reads : ReadsOn l.fn.window l.window (dim_after strict l.version) l.n l.counter l.dims;
  has_record : l.has_record ≡ has_record_dim l.dims;
}
