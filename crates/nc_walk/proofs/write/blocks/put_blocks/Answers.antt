use Rattle.nc_walk.proofs.Prelude.{rules, length, ◌<◌, arith, err_from_is_err_and, up-start, up-next, up-partway}
use Rattle.nc_walk.proofs.DataParts.{blocks-left}
use Rattle.nc_walk.proofs.write.blocks.put_blocks.Goals as goal

pub loop-v-init : goal.loop-v-init
loop-v-init g c = up-start _ _

pub returns-in_err-put_block : goal.returns-in_err-put_block
returns-in_err-put_block g c =
    let here : c.loop-v.v < length c.args.header.now.vars = search rules in
    let held : c.loop-v.v < length c.args.arrays.now = omega (arith, here, c.requires.one_each) in
    let p = err_from_is_err_and c.from_residual.result c.from_residual.ensures.1 in
    rw p.1 (up-partway _ _ _ _ _ _ _
    (blocks-left c.args.header.now.dims c.args.header.now.vars c.args.arrays.now c.loop-v.v c.index-vars-v.result c.index-arrays-v.result here held (search rules)
    c.index-arrays-v.is)
    c.loop-v.invariant (rw (c.as_slice-dims.ensures) at c.in_err-put_block.ensures))

pub loop-v-preserved : goal.loop-v-preserved
loop-v-preserved g c =
    let here : c.loop-v.v < length c.args.header.now.vars = search rules in
    let held : c.loop-v.v < length c.args.arrays.now = omega (arith, here, c.requires.one_each) in
    up-next _ _ _ _ _ _ _
    (blocks-left c.args.header.now.dims c.args.header.now.vars c.args.arrays.now c.loop-v.v c.index-vars-v.result c.index-arrays-v.result here held (search rules)
    c.index-arrays-v.is)
    c.loop-v.invariant (rw (c.as_slice-dims.ensures) at c.in_ok-put_block.ensures)
