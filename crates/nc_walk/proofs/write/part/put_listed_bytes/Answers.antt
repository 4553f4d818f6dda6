use Rattle.nc_walk.proofs.Prelude.{refl, arith, rules, err_from_is_err_and, up-start, up-next, up-partway}
use Rattle.nc_walk.proofs.ListedRuns.{next-run, part-whole}
use Rattle.nc_walk.proofs.write.part.put_listed_bytes.Goals as goal

pub loop-at-init : goal.loop-at-init
loop-at-init g c = grind (arith, part-whole, up-start)

pub loop-at-preserved : goal.loop-at-preserved
loop-at-preserved g c =
    up-next _ _ _ _ _ _ _
    (next-run c.args.listed.now c.run_at-run.result.bytes.now c.loop-at.at c.min-end.result c.run_at-run.result.filling c.run_at-run.result.fill c.in_ok-n.n c.run_at-run.ensures c.in_ok-n.ensures.count)
    c.loop-at.invariant (c.in_ok-n.ensures.writes)

pub returns-in_err-n : goal.returns-in_err-n
returns-in_err-n g c =
    let p = err_from_is_err_and c.from_residual.result c.from_residual.ensures.1 in
    rw p.1 (up-partway _ _ _ _ _ _ _
    (next-run c.args.listed.now c.run_at-run.result.bytes.now c.loop-at.at c.min-end.result c.run_at-run.result.filling c.run_at-run.result.fill _ c.run_at-run.ensures refl)
    c.loop-at.invariant (c.in_err-n.ensures.writes))

pub returns : goal.returns
returns g c = search rules
