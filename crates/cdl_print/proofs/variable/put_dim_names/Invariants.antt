use Rattle.cdl_print.proofs.Prelude.{length, map, dim_name, joined}
use Rattle.cdl_print.proofs.Begun.{IsBegun}
use Rattle.cdl_print.proofs.variable.put_dim_names.Given as goal

abbrev pub invariant-loop-first : goal.invariant-loop-first
invariant-loop-first g l = IsBegun (g.W.Sink.view l.fn.sink) (g.W.Sink.view l.sink) (joined (map (dim_name l.dims) l.rest)) (joined (map (dim_name l.dims) l.dimids))

abbrev pub decreases-loop-first : goal.decreases-loop-first
decreases-loop-first g l = length l.rest
