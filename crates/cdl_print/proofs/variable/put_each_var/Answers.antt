use Rattle.cdl_print.proofs.Prelude.{err_from_is_err_and, var_rows, wrote_next, partway_next}
use Rattle.cdl_print.proofs.variable.put_each_var.Goals as goal

pub loop-var-preserved : goal.loop-var-preserved
loop-var-preserved g c = wrote_next _ _ _ _ _ c.loop-var.var-index _ c.loop-var-test.true c.var-item.is c.loop-var.invariant c.in_ok-put_var_lines.ensures

pub returns-in_err-put_var_lines : goal.returns-in_err-put_var_lines
unfolding var_rows
returns-in_err-put_var_lines g c =
    let p = err_from_is_err_and c.from_residual.result c.from_residual.ensures.1 in
    rw p.1 (partway_next _ _ _ _ _ c.loop-var.var-index _ c.loop-var-test.true c.var-item.is c.loop-var.invariant c.in_err-put_var_lines.ensures)
