use Rattle.cdl_print.proofs.Prelude.{escaped_name, att_line, IsWritten}
use Rattle.cdl_print.proofs.attribute.put_att_lines.Given as goal

abbrev pub invariant-loop-att : goal.invariant-loop-att
invariant-loop-att g l = IsWritten (g.W.Sink.view l.fn.sink) (g.W.Sink.view l.sink) (att_line (escaped_name l.owner)) l.atts l.att-index
