use Rattle.cdl_print.proofs.Prelude.{dim_line, IsWritten}
use Rattle.cdl_print.proofs.head.put_dim_lines.Given as goal

abbrev pub invariant-loop-dim : goal.invariant-loop-dim
invariant-loop-dim g l = IsWritten (g.W.Sink.view l.fn.sink) (g.W.Sink.view l.sink) (dim_line l.records) l.dims l.dim-index
