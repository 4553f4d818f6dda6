-- Definition. All findings about the layout of a file, and the limits that a layout keeps.
use Rattle.std.specs.Prelude.{◌≤◌, ◌<◌, ◌^◌, List, ◌++◌, All, sum_by, flat_map}
use Rattle.nc_base.specs.Sizes.{slab_limit, record_limit}
use Rattle.nc_layout.specs.declared.{slot.Slot.Slot, slot.FileLayout.FileLayout}
use Rattle.nc_findings.specs.declared.{layout_fact.LayoutFinding.LayoutFinding}
use Rattle.nc_layout.specs.Slots.{padded_slab_len, record_slots}
use Rattle.nc_layout.specs.Blocks.{each_slot, blocks}
use Rattle.nc_layout.specs.NumRecsRules.{numrecs_findings}
use Rattle.nc_layout.specs.SlotRules.{slot_findings}
use Rattle.nc_layout.specs.BlockRules.{block_findings}
use Rattle.nc_layout.specs.FileEnd.{end_findings}

-- a slab has at least one byte and keeps the limit, and a begin is below 2^63
pub record IsSoundSlot (slot : Slot) : Type 0 where
  pub some_bytes : 1 ≤ slot.slab
  pub small_slab : slot.slab ≤ slab_limit
  pub small_begin : slot.begin < 2 ^ 63

-- the slots are sound, the padded slabs of the record slots keep the limit on a record, and the header ends inside of the file
pub record IsSoundLayout (layout : FileLayout) : Type 0 where
  pub sound_slots : All IsSoundSlot layout.slots
  pub small_record : sum_by padded_slab_len (record_slots layout.slots) ≤ record_limit
  pub header_inside : layout.header_end ≤ layout.file_len

-- those at the fields of the header, at the end of the file and at the begins of blocks
unfoldable pub layout_findings : FileLayout → List LayoutFinding
layout_findings layout =
    numrecs_findings layout ++ each_slot (slot_findings layout) 0 layout.slots ++ end_findings layout
    ++ flat_map (block_findings layout.header_end (blocks layout)) (blocks layout)
