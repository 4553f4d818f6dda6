use Rattle.cdl_print.proofs.Prelude.{err_from_is_err_and, dim_lines, wrote_next, partway_next}
use Rattle.cdl_print.proofs.head.put_dim_lines.Goals as goal

pub loop-dim-preserved : goal.loop-dim-preserved
loop-dim-preserved g c = wrote_next _ _ _ _ _ c.loop-dim.dim-index _ c.loop-dim-test.true c.dim-item.is c.loop-dim.invariant c.in_ok-put_dim_line.ensures

pub returns-in_err-put_dim_line : goal.returns-in_err-put_dim_line
unfolding dim_lines
returns-in_err-put_dim_line g c =
    let p = err_from_is_err_and c.from_residual.result c.from_residual.ensures.1 in
    rw p.1 (partway_next _ _ _ _ _ c.loop-dim.dim-index _ c.loop-dim-test.true c.dim-item.is c.loop-dim.invariant c.in_err-put_dim_line.ensures)
