-- For contracts. The values of a variable by their number, counted from 0 in row-major order.
use Rattle.std.specs.Prelude.{◌≡◌, ℕ, ◌+◌, ◌-◌, ◌*◌, ◌/◌, ◌%◌, ◌^◌, ◌<◌, ◌≤◌, min, if◌then◌else◌, List, length, map, Some}
use Rattle.std.specs.List.{range_with_len, slice_get}
use Rattle.nc_base.specs.declared.{header.Var.Var, header.Header.Header}
use Rattle.nc_types.specs.Types.{size_of}
use Rattle.nc_base.specs.Sizes.{is_record_var, slab_count, record_size}
use Rattle.nc_base.specs.Places.{value_offsets}
use Rattle.devices.specs.Sources.{SourceView}
use Rattle.nc_walk.specs.declared.{slabs.Slabs.Slabs, cursor.Cursor.Cursor}

-- the number of values
abbrev pub total : Slabs → ℕ
total l = l.total_slabs * l.values_per_slab

-- the number of the value at a cursor: how many values come before it
abbrev pub number_at : Slabs → Cursor → ℕ
number_at l cursor = cursor.slab * l.values_per_slab + cursor.within

-- the offset of value number i: i / per slabs stand before its own, and i % per values before it in there
abbrev pub offset : Slabs → ℕ → ℕ
offset l i = l.begin + i / l.values_per_slab * l.stride + i % l.values_per_slab * l.size

-- this is the offset of value number i, or 2 ^ 64 - 1 where that is less
abbrev pub IsOffset : Slabs → ℕ → ℕ → Type 0
IsOffset l i at = at ≡ min (offset l i) (2 ^ 64 - 1)

-- the offsets of n values, from number i on
unfoldable pub offsets_from : Slabs → ℕ → ℕ → List ℕ
offsets_from l i n = map (offset l) (range_with_len i n)

-- the offsets of all values but the first i
abbrev pub offsets_after : Slabs → ℕ → List ℕ
offsets_after l i = offsets_from l i (total l - i)

-- the slabs of a variable over n records, one for each
abbrev pub slabs_of : Header → Var → ℕ → Slabs
slabs_of h var n = record {
  begin = var.begin_at;
  stride = record_size h;
  values_per_slab = slab_count h.dims var;
  total_slabs = if is_record_var h.dims var then n else 1;
  size = size_of var.ty;
}

-- There are values in each slab, and all offsets are below 2^127.
pub record IsSized (l : Slabs) : Type 0 where
  pub some : 0 < l.size
  pub small : l.size ≤ 8
  pub values_per_slab : 0 < l.values_per_slab
  pub stride : l.stride ≤ 2 ^ 62

-- the cursor of a value, or the one after the last value
pub record IsCursor (l : Slabs) (cursor : Cursor) : Type 0 where
  pub within : cursor.within < l.values_per_slab
  pub reached : number_at l cursor ≤ total l

-- the values of these slabs are those of the variable at this index over n records, in the same order
pub record AreSlabsOf (h : Header) (v n : ℕ) (l : Slabs) : Type 0 where
  pub var : Var
  pub at : slice_get h.vars v ≡ Some var
  pub size : l.size ≡ size_of var.ty
  pub offsets : offsets_after l 0 ≡ value_offsets h var n
  pub sized : IsSized l

-- a slab at the offset `at` has no more than `capacity` values, and ends inside of a file of `len` bytes
abbrev pub HasWholeSlab : Slabs → ℕ → ℕ → ℕ → Type 0
HasWholeSlab l at capacity len = (l.values_per_slab ≤ capacity) × (at + l.values_per_slab * l.size ≤ len)

-- n values from number i on lie side by side in one slab, take no more than `capacity` bytes, and end inside of a file of `len` bytes; n is
-- 0 only if not even value number i ends inside of it
pub record Ready (l : Slabs) (i capacity len n : ℕ) : Type 0 where
  pub in_slab : i % l.values_per_slab + n ≤ l.values_per_slab
  pub in_capacity : n * l.size ≤ capacity
  pub whole : 0 < n → offset l i + n * l.size ≤ len
  pub none : n ≡ 0 → len < offset l i + l.size

-- n values, one at least, can be read of this source into this slice: those from this cursor on, whose offset in the source is `start`
pub record AreReady (l : Slabs) (cursor : Cursor) (start n : ℕ) (into : List ℕ) (source : SourceView) : Type 0 where
  pub sized : IsSized l
  pub is_cursor : IsCursor l cursor
  pub more : number_at l cursor < total l
  pub at : start ≡ offset l (number_at l cursor)
  pub some : 0 < n
  pub ready : Ready l (number_at l cursor) (length into) (length source.bytes) n
  pub len : length source.bytes < 2 ^ 64

-- there is a value at the cursor, and the slice has the capacity for n values, one at least
pub record HasCapacity (l : Slabs) (cursor : Cursor) (n : ℕ) (into : List ℕ) : Type 0 where
  pub sized : IsSized l
  pub is_cursor : IsCursor l cursor
  pub more : number_at l cursor < total l
  pub some : 0 < n
  pub capacity : n * l.size ≤ length into
