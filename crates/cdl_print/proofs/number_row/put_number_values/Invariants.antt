use Rattle.cdl_print.proofs.Prelude.{length, numbers, look_at}
use Rattle.cdl_print.proofs.PrintingLaws.{IsUnderway}
use Rattle.cdl_print.proofs.number_row.put_number_values.Given as goal

abbrev pub invariant-loop-rest : goal.invariant-loop-rest
invariant-loop-rest g l =
    IsUnderway (look_at l.layout) l.fn.progress l.progress (g.W.Sink.view l.fn.sink) (g.W.Sink.view l.sink) (numbers l.layout.ty l.rest) (numbers l.layout.ty l.bytes)

abbrev pub decreases-loop-rest : goal.decreases-loop-rest
decreases-loop-rest g l = length l.rest
