use Rattle.nc_layout.proofs.Prelude.{record_limit, record_slots, slab_if, ◌≡◌, ◌≤◌, ◌+◌, min, sum_by}
use Rattle.nc_layout.proofs.SlotLists.{rest}
use Rattle.nc_layout.proofs.records.capped_record_bytes.Given as goal

-- what has been added, with the slabs that are left, keeps the capped sum
abbrev pub invariant-loop-slot : goal.invariant-loop-slot
invariant-loop-slot l =
    (min (l.bytes + sum_by (slab_if l.sole_narrow) (rest l.slots l.slot-index)) (record_limit + 1)
    ≡ min (sum_by (slab_if l.sole_narrow) (record_slots l.slots)) (record_limit + 1))
    × (l.bytes ≤ record_limit + 1)
