use Rattle.nc_layout.proofs.Prelude.{arith, length, ◌<◌, ◌≡◌}
use Rattle.nc_layout.proofs.HeaderSlots.{slots_more}
use Rattle.nc_layout.proofs.header_layout.slots_of.Goals as goal

pub loop-var-preserved : goal.loop-var-preserved
loop-var-preserved c =
    let dims = c.as_slice-dims.result.now in
    let vars = c.args.header.now.vars in
    let x = c.var-item.result in
    let i = c.loop-var.var-index in
    let items : c.as_slice-var-items.result.now ≡ vars = c.as_slice-var-items.ensures in
    let lt : i < length vars = rw items at c.loop-var-test.true in
    grind (arith, slots_more dims vars i c.loop-var.slots x lt (rw items at c.var-item.is) c.in-Some.ensures.0 c.loop-var.invariant)
