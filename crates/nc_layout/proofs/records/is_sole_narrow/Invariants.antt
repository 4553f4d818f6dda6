use Rattle.nc_layout.proofs.Prelude.{option_to_list, record_slots, ◌≡◌, ◌++◌, map}
use Rattle.nc_layout.proofs.SlotLists.{narrow_slot, rest}
use Rattle.nc_layout.proofs.records.is_sole_narrow.Given as goal

abbrev pub invariant-loop-slot : goal.invariant-loop-slot
invariant-loop-slot l = option_to_list l.sole ++ map narrow_slot (rest l.slots l.slot-index) ≡ map narrow_slot (record_slots l.slots)
