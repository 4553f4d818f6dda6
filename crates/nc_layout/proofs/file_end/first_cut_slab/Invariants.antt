use Rattle.nc_layout.proofs.Prelude.{each_slot, first_of, first_slab, is_cut, slabs_of, first_cut_slab, ◌≡◌, filter, drop}
use Rattle.nc_layout.proofs.file_end.first_cut_slab.Given as goal

abbrev pub invariant-loop-i : goal.invariant-loop-i
invariant-loop-i l =
    first_of l.first (first_slab
    (filter (is_cut l.layout.file_len) (each_slot (slabs_of l.records.size l.records.count) l.i (drop l.i l.slots))))
    ≡ first_cut_slab l.layout
