use Rattle.nc_walk.proofs.Prelude.{List, get_or, ◌∙◌, ap, if◌then◌else◌, arith, Dim, Var, slab_count, is_record_var}
use Rattle.nc_walk.proofs.SlabSteps.{are_slabs, sized_slabs, same_slabs}
use Rattle.nc_walk.proofs.slabs.Slabs.of.Goals as goal

pub joined-requires : goal.joined-requires
joined-requires c = grind (arith, sized_slabs, same_slabs)

pub returns : goal.returns
returns c =
    let var = c.index-as_slice-v.result in
    are_slabs c.args.header.now c.args.v c.args.layout.records var _ _ c.requires.there
    (c.index-as_slice-v.is ∙ ap (λ (vars : List Var). get_or vars c.args.v var) c.as_slice.ensures)
    (same_slabs c.args.header.now c.args.layout.records var _ _ _ _ c.requires.record_size
    (c.values_per_slab.ensures ∙ ap (λ (dims : List Dim). slab_count dims var) c.as_slice-dims.ensures)
    (c.total_slabs.ensures ∙ ap (λ (dims : List Dim). if is_record_var dims var then c.args.layout.records else 1) c.as_slice-dims.ensures)
    c.size.ensures)
    c.joined.ensures.size c.joined.ensures.offsets c.joined.ensures.sized
