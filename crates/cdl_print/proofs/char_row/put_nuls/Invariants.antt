use Rattle.cdl_print.proofs.Prelude.{◌-◌, replicate, escaped_text}
use Rattle.cdl_print.proofs.Begun.{IsBegun}
use Rattle.cdl_print.proofs.char_row.put_nuls.Given as goal

abbrev pub invariant-loop : goal.invariant-loop
invariant-loop g l = IsBegun (g.W.Sink.view l.fn.sink) (g.W.Sink.view l.sink) (escaped_text (replicate (l.count - l.counter) 0)) (escaped_text (replicate l.count 0))
