use Rattle.cdl_print.proofs.Prelude.{length, broken_text}
use Rattle.cdl_print.proofs.Begun.{IsBegun}
use Rattle.cdl_print.proofs.string.put_broken_text.Given as goal

abbrev pub invariant-loop-rest : goal.invariant-loop-rest
invariant-loop-rest g l = IsBegun (g.W.Sink.view l.fn.sink) (g.W.Sink.view l.sink) (broken_text l.rest) (broken_text l.bytes)

abbrev pub decreases-loop-rest : goal.decreases-loop-rest
decreases-loop-rest g l = length l.rest
