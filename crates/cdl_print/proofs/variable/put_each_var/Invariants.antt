use Rattle.cdl_print.proofs.Prelude.{var_lines, IsWritten}
use Rattle.cdl_print.proofs.variable.put_each_var.Given as goal

abbrev pub invariant-loop-var : goal.invariant-loop-var
invariant-loop-var g l = IsWritten (g.W.Sink.view l.fn.sink) (g.W.Sink.view l.sink) (var_lines l.dims) l.vars l.var-index
