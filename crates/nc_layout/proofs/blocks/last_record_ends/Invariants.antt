use Rattle.nc_layout.proofs.Prelude.{Slot, record_slots, slab_if, ◌≡◌, ◌+◌, map, fold, max}
use Rattle.nc_layout.proofs.SlotLists.{rest}
use Rattle.nc_layout.proofs.blocks.last_record_ends.Given as goal

abbrev pub invariant-loop-slot : goal.invariant-loop-slot
invariant-loop-slot l = record {
  values : fold max l.values (map (λ (slot : Slot). slot.begin + l.before + slot.slab) (rest l.slots l.slot-index))
      ≡ fold max 0 (map (λ (slot : Slot). slot.begin + l.before + slot.slab) (record_slots l.slots));
  padding : fold max l.padding (map (λ (slot : Slot). slot.begin + l.before + slab_if l.sole_narrow slot) (rest l.slots l.slot-index))
      ≡ fold max 0 (map (λ (slot : Slot). slot.begin + l.before + slab_if l.sole_narrow slot) (record_slots l.slots));
}
