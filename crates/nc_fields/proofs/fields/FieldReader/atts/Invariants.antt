use Rattle.nc_fields.proofs.Prelude.{at, att_after, lenient}
use Rattle.nc_fields.specs.code.Lists.{list_steps}
use Rattle.nc_fields.proofs.Elements.{ChecksOn}
use Rattle.nc_fields.proofs.fields.FieldReader.atts.Given as goal

abbrev pub invariant-loop-i : goal.invariant-loop-i
invariant-loop-i g l = ChecksOn (at l.fn.window l.fn.self) (at l.window l.self) (list_steps l.list) (att_after lenient l.version) l.n l.i l.atts
