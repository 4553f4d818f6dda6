use Rattle.nc_fields.proofs.Prelude.{at, Vars, var_after, total_of, lenient, ◌≡◌, ◌∷◌, []}
use Rattle.nc_fields.proofs.Elements.{ChecksOn}
use Rattle.nc_fields.proofs.fields.FieldReader.vars.Given as goal

abbrev pub invariant-loop-i : goal.invariant-loop-i
invariant-loop-i g l = record {
  elements : ChecksOn (at l.fn.window l.fn.self) (at l.window l.self) (Vars ∷ []) (var_after lenient l.version l.dims) l.n l.i l.vars;
  total : l.total ≡ total_of l.dims l.vars;
}
