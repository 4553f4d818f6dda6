-- Definition. The slabs of a file's variables and the records that they make (`vsize`, `recsize` and `numrecs` of the NetCDF Classic Format
-- Specification).
use Rattle.std.specs.Prelude.{ℕ, ◌+◌, min, Bool, false, not, if◌then◌else◌, List, [], ◌∷◌, filter, map, sum_by, Option}
use Rattle.std.specs.List.{reduce}
use Rattle.nc_types.specs.Bytes.{padding_len}
use Rattle.nc_base.specs.Sizes.{records_between, known_or}
use Rattle.nc_layout.specs.declared.{slot.Slot.Slot, slot.FileLayout.FileLayout}

-- the bytes of a slab with the padding up to the next multiple of four
abbrev pub padded_slab_len : Slot → ℕ
padded_slab_len slot = slot.slab + padding_len slot.slab

-- it isn't a record slot
abbrev pub is_fixed : Slot → Bool
is_fixed slot = not slot.is_record

abbrev pub record_slots : List Slot → List Slot
record_slots slots = filter (λ (slot : Slot). slot.is_record) slots

-- there is exactly one slot, and its values have less than four bytes each
abbrev pub is_sole_narrow : List Slot → Bool
is_sole_narrow (slot ∷ []) = slot.is_narrow
is_sole_narrow slots = false

-- the bytes that the slab of a record slot takes in a record: a sole one of narrow values isn't padded
abbrev pub slab_in_record : List Slot → Slot → ℕ
slab_in_record slots slot = if is_sole_narrow (record_slots slots) then slot.slab else padded_slab_len slot

-- the bytes from a record to the next
unfoldable pub record_size : List Slot → ℕ
record_size slots = sum_by (slab_in_record slots) (record_slots slots)

-- where the records begin: the least begin of a record slot, if there are any
unfoldable pub records_begin : List Slot → Option ℕ
records_begin slots = reduce min (map (λ (slot : Slot). slot.begin) (record_slots slots))

-- how many whole records lie between the begin of the records and the end of the file
unfoldable pub records_by_length : FileLayout → ℕ
records_by_length layout = records_between (record_size layout.slots) (records_begin layout.slots) layout.file_len

-- the number of records
unfoldable pub record_count : FileLayout → ℕ
record_count layout = known_or layout.numrecs (records_by_length layout)
