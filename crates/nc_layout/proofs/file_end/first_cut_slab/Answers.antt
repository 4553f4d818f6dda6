use Rattle.nc_layout.proofs.Prelude.{at_drop_more, Slot, each_slot, slabs_of, all_slabs, first_cut_slab, arith}
use Rattle.nc_layout.proofs.SlotLists.{record_size_le}
use Rattle.nc_layout.proofs.CutSlabs.{first_cut-append, record_size_positive}
use Rattle.nc_layout.proofs.file_end.first_cut_slab.Goals as goal

pub loop-i-init : goal.loop-i-init
unfolding first_cut_slab all_slabs
loop-i-init c = grind arith

pub cut_slab_of-cut-requires-clause-small : goal.cut_slab_of-cut-requires-clause-small
cut_slab_of-cut-requires-clause-small c = grind (arith, record_size_le)

pub cut_slab_of-cut-requires-clause-size : goal.cut_slab_of-cut-requires-clause-size
cut_slab_of-cut-requires-clause-size c = λ is. grind (arith, record_size_positive c.args.layout.now.slots c.loop-i.i)

pub loop-i-preserved : goal.loop-i-preserved
loop-i-preserved c =
    let slabs = each_slot (slabs_of c.args.records.size c.args.records.count) c.loop-i.i in
    let step = λ (d : Slot). at_drop_more slabs c.as_slice-slots.result.now c.loop-i.i d c.loop-i-test.true in
    grind (arith, first_cut-append)
