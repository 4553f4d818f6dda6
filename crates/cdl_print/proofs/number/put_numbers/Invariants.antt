use Rattle.cdl_print.proofs.Prelude.{length, numbers_text}
use Rattle.cdl_print.proofs.Begun.{IsBegun}
use Rattle.cdl_print.proofs.number.put_numbers.Given as goal

abbrev pub invariant-loop-rest : goal.invariant-loop-rest
invariant-loop-rest g l = IsBegun (g.W.Sink.view l.fn.sink) (g.W.Sink.view l.sink) (numbers_text l.ty l.rest) (numbers_text l.ty l.vals)

abbrev pub decreases-loop-rest : goal.decreases-loop-rest
decreases-loop-rest g l = length l.rest
