use Rattle.nc_walk.proofs.Prelude.{err_from_is_err_and, up-start, up-next, up-partway, up-all}
use Rattle.nc_walk.proofs.DataParts.{slab-left, slab-none}
use Rattle.nc_walk.proofs.write.records.put_record.Goals as goal

pub loop-slab-init : goal.loop-slab-init
loop-slab-init g c = up-start _ _

pub returns-in_err-put_record : goal.returns-in_err-put_record
returns-in_err-put_record g c =
    let p = err_from_is_err_and c.from_residual.result c.from_residual.ensures.1 in
    rw p.1 (up-partway _ _ _ _ _ _ _
    (slab-left c.args.r c.args.arrays.now c.args.slabs.now c.loop-slab.slab-index _ c.array_writer.result c.loop-slab-test.true c.array_writer.ensures)
    c.loop-slab.invariant c.in_err-put_record.ensures)

pub loop-slab-preserved : goal.loop-slab-preserved
loop-slab-preserved g c =
    up-next _ _ _ _ _ _ _
    (slab-left c.args.r c.args.arrays.now c.args.slabs.now c.loop-slab.slab-index _ c.array_writer.result c.loop-slab-test.true c.array_writer.ensures)
    c.loop-slab.invariant c.in_ok-put_record.ensures

pub returns : goal.returns
returns g c = up-all _ _ _ _ (slab-none c.args.r c.args.arrays.now c.args.slabs.now c.loop-slab.slab-index c.loop-slab-test.false) c.loop-slab.invariant
