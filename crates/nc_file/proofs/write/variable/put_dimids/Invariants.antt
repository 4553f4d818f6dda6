use Rattle.nc_file.proofs.Prelude.{drop, flat_map, UpTo, number, print, count_width}
use Rattle.nc_file.proofs.write.variable.put_dimids.Given as goal

abbrev pub invariant-loop-id : goal.invariant-loop-id
invariant-loop-id g l = UpTo (g.W.Sink.view l.fn.sink) (g.W.Sink.view l.sink) (flat_map (print (number (count_width l.version))) l.dimids) (flat_map (print (number (count_width l.version))) (drop l.id-index l.dimids))
