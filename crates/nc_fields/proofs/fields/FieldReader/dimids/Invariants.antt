use Rattle.nc_fields.proofs.Prelude.{at, Shape, dimid_after, owner_steps, ◌∷◌}
use Rattle.nc_fields.proofs.Elements.{ChecksOn}
use Rattle.nc_fields.proofs.fields.FieldReader.dimids.Given as goal

abbrev pub invariant-loop-i : goal.invariant-loop-i
invariant-loop-i g l = ChecksOn (at l.fn.window l.fn.self) (at l.window l.self) (Shape ∷ owner_steps l.owner) (dimid_after l.version l.dims) l.n l.i l.dimids
