-- Definition. The layout of a file with this header: each variable has a slot, with the sizes of `nc_base`.
use Rattle.std.specs.Prelude.{ℕ, List, map}
use Rattle.nc_base.specs.declared.{header.Dim.Dim, header.Var.Var, header.Header.Header}
use Rattle.nc_base.specs.Sizes.{slab_size, is_record_var, is_narrow}
use Rattle.nc_layout.specs.declared.{slot.Slot.Slot, slot.FileLayout.FileLayout}

-- the slot of a variable
abbrev pub slot_of : List Dim → Var → Slot
slot_of dims var = record {
  begin = var.begin_at;
  slab = slab_size dims var;
  is_record = is_record_var dims var;
  is_narrow = is_narrow var;
}

-- the layout of a file of this length whose header ends at this offset
abbrev pub layout_of : Header → ℕ → ℕ → FileLayout
layout_of h header_end file_len = record {
  version = h.version;
  numrecs = h.numrecs;
  slots = map (slot_of h.dims) h.vars;
  header_end = header_end;
  file_len = file_len;
}
