use Rattle.nc_file.proofs.Prelude.{drop, flat_map, UpTo, var_part, strict, print}
use Rattle.nc_file.proofs.write.variable.put_vars.Given as goal

abbrev pub invariant-loop-var : goal.invariant-loop-var
invariant-loop-var g l = UpTo (g.W.Sink.view l.fn.sink) (g.W.Sink.view l.sink) (flat_map (print (var_part strict l.version l.dims 0)) l.vars) (flat_map (print (var_part strict l.version l.dims 0)) (drop l.var-index l.vars))
