use Rattle.nc_layout.proofs.Prelude.{at_drop_more, append_assoc, Slot, each_slot, fixed_block, arith}
use Rattle.nc_layout.proofs.blocks.fixed_blocks.Goals as goal

pub loop-i-preserved : goal.loop-i-preserved
loop-i-preserved c =
    let step = λ (d : Slot). at_drop_more (each_slot fixed_block c.loop-i.i) c.args.slots.now c.loop-i.i d c.loop-i-test.true in
    grind (arith, append_assoc, step)
