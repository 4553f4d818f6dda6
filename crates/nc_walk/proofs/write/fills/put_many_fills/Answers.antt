use Rattle.nc_walk.proofs.Prelude.{◌≡◌, arith, ap, ◌∙◌, err_from_is_err_and, repeated, up-start, up-next, up-partway, up-all}
use Rattle.nc_walk.proofs.Repeats.{next-piece, repeated-none}
use Rattle.nc_walk.proofs.write.fills.put_many_fills.Goals as goal

pub loop-left-init : goal.loop-left-init
loop-left-init g c = up-start _ _

pub loop-left-preserved : goal.loop-left-preserved
loop-left-preserved g c =
    up-next _ _ _ _ _ _ _
    (next-piece c.args.unit c.as_flattened-buffer.result.now 1024 c.loop-left.left c.min-piece.result (omega arith) c.as_flattened-buffer.ensures.value c.min-piece.ensures)
    c.loop-left.invariant (c.in_ok-put.ensures)

pub returns-in_err-put : goal.returns-in_err-put
returns-in_err-put g c =
    let p = err_from_is_err_and c.from_residual.result c.from_residual.ensures.1 in
    rw p.1 (up-partway _ _ _ _ _ _ _
    (next-piece c.args.unit c.as_flattened-buffer.result.now 1024 c.loop-left.left c.min-piece.result (omega arith) c.as_flattened-buffer.ensures.value c.min-piece.ensures)
    c.loop-left.invariant (c.in_err-put.ensures))

pub returns : goal.returns
returns g c =
    let e : c.loop-left.left ≡ 0 = omega arith in
    up-all _ _ _ _ (ap (repeated c.args.unit) e ∙ repeated-none c.args.unit) c.loop-left.invariant
