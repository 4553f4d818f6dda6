-- For contracts. What is computed of the records of a file once and for all.
use Rattle.std.specs.Prelude.{◌≡◌, ℕ, Bool, if◌then◌else◌}
use Rattle.nc_layout.specs.declared.{slot.Slot.Slot, slot.FileLayout.FileLayout, records.FileRecords.FileRecords}
use Rattle.nc_layout.specs.Slots.{padded_slab_len, record_slots, is_sole_narrow, record_size, records_begin, records_by_length, record_count}

-- the bytes that the slab of a record slot takes in a record: not padded if `narrow` (it is the only one, and its values are narrow)
abbrev pub slab_if : Bool → Slot → ℕ
slab_if narrow slot = if narrow then slot.slab else padded_slab_len slot

-- these are the records of a file with this layout
pub record AreRecords (layout : FileLayout) (records : FileRecords) : Type 0 where
  pub begin : records.begin ≡ records_begin layout.slots
  pub narrow : records.sole_narrow ≡ is_sole_narrow (record_slots layout.slots)
  pub size : records.size ≡ record_size layout.slots
  pub by_length : records.by_length ≡ records_by_length layout
  pub count : records.count ≡ record_count layout
