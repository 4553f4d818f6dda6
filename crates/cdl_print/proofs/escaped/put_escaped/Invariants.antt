use Rattle.cdl_print.proofs.Prelude.{length, flat_map, escaped_in}
use Rattle.cdl_print.proofs.Begun.{IsBegun}
use Rattle.cdl_print.proofs.escaped.put_escaped.Given as goal

abbrev pub invariant-loop-rest : goal.invariant-loop-rest
invariant-loop-rest g l = IsBegun (g.W.Sink.view l.fn.sink) (g.W.Sink.view l.sink) (flat_map (escaped_in l.quoting) l.rest) (flat_map (escaped_in l.quoting) l.bytes)

abbrev pub decreases-loop-rest : goal.decreases-loop-rest
decreases-loop-rest g l = length l.rest
