use Rattle.nc_walk.proofs.Prelude.{ℕ, List, map, arith, rules, err_from_is_err_and, filled_records, array_of, up-start, up-next, up-partway}
use Rattle.nc_walk.proofs.DataParts.{rows-left}
use Rattle.nc_walk.proofs.write.records.put_padded_records.Goals as goal

pub loop-r-init : goal.loop-r-init
loop-r-init g c = grind (arith, up-start)

pub returns-in_err-put_record : goal.returns-in_err-put_record
returns-in_err-put_record g c =
    let p = err_from_is_err_and c.from_residual.result c.from_residual.ensures.1 in
    let f : ℕ → List ℕ = λ r. filled_records r (map (array_of c.args.arrays.now) c.args.slabs.now) in
    rw p.1 (up-partway _ _ _ _ _ _ _ (rows-left f c.loop-r.r c.args.records c.loop-r-test.true) c.loop-r.invariant c.in_err-put_record.ensures)

pub loop-r-preserved : goal.loop-r-preserved
loop-r-preserved g c = grind (arith, up-next, rows-left)

pub returns : goal.returns
returns g c = search rules
