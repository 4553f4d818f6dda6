use Rattle.nc_walk.proofs.Prelude.{ℕ, List, [], ◌++◌, take, replicate, refl, sym, ap, ◌∙◌, subst, arith, err_from_is_err_and, repeated, append-nil, FailedPartway, up-start, up-partway}
use Rattle.nc_walk.proofs.ListedRuns.{run-pieces}
use Rattle.devices.proofs.Writes.{appended_then, appended_partway}
use Rattle.nc_walk.proofs.write.part.put_run.Goals as goal

pub returns-in_err-put-clause-writes : goal.returns-in_err-put-clause-writes
returns-in_err-put-clause-writes g c =
    let run = c.args.run in
    let p = err_from_is_err_and c.from_residual.result c.from_residual.ensures.1 in
    rw p.1 (up-partway _ _ _ _ _ _ _ (run-pieces run.bytes.now run.filling run.fill c.args.n c.min-listed.result _ c.min-listed.ensures refl) (up-start _ _) c.in_err-put.ensures)

pub returns-in_err-put_fills-clause-writes : goal.returns-in_err-put_fills-clause-writes
returns-in_err-put_fills-clause-writes g c =
    let run = c.args.run in
    let p = err_from_is_err_and c.from_residual-in_err-put_fills.result c.from_residual-in_err-put_fills.ensures.1 in
    let pieces = run-pieces run.bytes.now run.filling run.fill c.args.n c.min-listed.result c.min-filling.result c.min-listed.ensures c.min-filling.ensures in
    let second : List ℕ = repeated (replicate 8 run.fill) c.min-filling.result in
    rw p.1 (subst (FailedPartway _ _) (sym (pieces ∙ ap (λ (b : List ℕ). take c.min-listed.result run.bytes.now ++ b) (sym (append-nil second)))) (appended_partway _ _ _ _ _ [] c.in_ok-put.ensures c.in_err-put_fills.ensures))

pub returns-clause-writes : goal.returns-clause-writes
returns-clause-writes g c = grind (arith, run-pieces, appended_then)
