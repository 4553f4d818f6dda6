use Rattle.nc_fields.proofs.Prelude.{at, Dims, dim_after, has_record_dim, lenient, ◌≡◌, ◌∷◌, []}
use Rattle.nc_fields.proofs.Elements.{ChecksOn}
use Rattle.nc_fields.proofs.fields.FieldReader.dims.Given as goal

abbrev pub invariant-loop-i : goal.invariant-loop-i
invariant-loop-i g l = record {
  elements : ChecksOn (at l.fn.window l.fn.self) (at l.window l.self) (Dims ∷ []) (dim_after lenient l.version) l.n l.i l.dims;
  has_record : l.has_record ≡ has_record_dim l.dims;
}
