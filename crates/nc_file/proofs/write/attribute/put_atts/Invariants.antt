use Rattle.nc_file.proofs.Prelude.{drop, flat_map, UpTo, att_part, strict, print}
use Rattle.nc_file.proofs.write.attribute.put_atts.Given as goal

abbrev pub invariant-loop-att : goal.invariant-loop-att
invariant-loop-att g l = UpTo (g.W.Sink.view l.fn.sink) (g.W.Sink.view l.sink) (flat_map (print (att_part strict l.version)) l.atts) (flat_map (print (att_part strict l.version)) (drop l.att-index l.atts))
