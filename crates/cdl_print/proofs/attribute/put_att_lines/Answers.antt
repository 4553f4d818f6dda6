use Rattle.cdl_print.proofs.Prelude.{err_from_is_err_and, att_lines, wrote_next, partway_next}
use Rattle.cdl_print.proofs.attribute.put_att_lines.Goals as goal

pub loop-att-preserved : goal.loop-att-preserved
loop-att-preserved g c = wrote_next _ _ _ _ _ c.loop-att.att-index _ c.loop-att-test.true c.att-item.is c.loop-att.invariant c.in_ok-put_att_line.ensures

pub returns-in_err-put_att_line : goal.returns-in_err-put_att_line
unfolding att_lines
returns-in_err-put_att_line g c =
    let p = err_from_is_err_and c.from_residual.result c.from_residual.ensures.1 in
    rw p.1 (partway_next _ _ _ _ _ c.loop-att.att-index _ c.loop-att-test.true c.att-item.is c.loop-att.invariant c.in_err-put_att_line.ensures)
