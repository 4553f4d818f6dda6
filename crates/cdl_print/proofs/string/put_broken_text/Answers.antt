use Rattle.cdl_print.proofs.Prelude.{rules, arith, ◌<◌, length, err_from_is_err_and}
use Rattle.cdl_print.proofs.Begun.{begun_at_first, begun_next, begun_partway}
use Rattle.cdl_print.proofs.Runs.{line_len-le, line_len-some, broken_text-parts}
use Rattle.cdl_print.proofs.string.put_broken_text.Goals as goal

pub loop-rest-init : goal.loop-rest-init
loop-rest-init g c = begun_at_first _ _

pub split_at-requires : goal.split_at-requires
split_at-requires g c = grind (arith, line_len-le)

pub loop-rest-smaller : goal.loop-rest-smaller
loop-rest-smaller g c =
    let some : 0 < length c.loop-rest.rest.now = search rules in
    omega (arith, line_len-some c.loop-rest.rest.now some, c.line_len.ensures, c.split_at.ensures.back_len)

pub loop-rest-preserved : goal.loop-rest-preserved
loop-rest-preserved g c =
    let some : 0 < length c.loop-rest.rest.now = search rules in
    let parts = broken_text-parts c.line_len.result c.loop-rest.rest.now c.split_at.result.0.now c.split_at.result.1.now c.is_empty-in-loop-rest.result some c.line_len.ensures c.split_at.ensures.front c.split_at.ensures.back (search rules) in
    begun_next _ _ _ _ _ _ _ c.loop-rest.invariant parts c.in_ok-put_line.ensures

pub returns-in_err-put_line : goal.returns-in_err-put_line
returns-in_err-put_line g c =
    let some : 0 < length c.loop-rest.rest.now = search rules in
    let p = err_from_is_err_and c.from_residual.result c.from_residual.ensures.1 in
    let parts = broken_text-parts c.line_len.result c.loop-rest.rest.now c.split_at.result.0.now c.split_at.result.1.now c.is_empty-in-loop-rest.result some c.line_len.ensures c.split_at.ensures.front c.split_at.ensures.back (search rules) in
    rw p.1 (begun_partway _ _ _ _ _ _ _ c.loop-rest.invariant parts c.in_err-put_line.ensures)
