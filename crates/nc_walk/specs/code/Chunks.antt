-- For contracts. What collecting the values of one slab after the other has done.
use Rattle.std.specs.Prelude.{◌≡◌, ℕ, ◌+◌, ◌*◌, ◌<◌, ◌≤◌, Bool, length, Result, Ok, Err}
use Rattle.devices.specs.Sources.{SourceView}
use Rattle.nc_walk.specs.declared.{fault.WalkFault.WalkFault, slabs.Slabs.Slabs, cursor.Cursor.Cursor, chunk.Chunk.Chunk}
use Rattle.nc_walk.specs.declared.fault.WalkFault.TheVariants.{ReadFailed, DataTruncated}
use Rattle.nc_walk.specs.code.Slabs.{total, number_at, IsCursor}
use Rattle.devices.specs.Uses.{Use}
use Rattle.nc_walk.specs.code.Walks.{ReturnsValues, Failing, Truncated, ReadValues, Reading, walk_of, values_in}

-- the values end with their slab, and another slab and capacity for a value are left
pub record Continues (l : Slabs) (capacity : ℕ) (chunk : Chunk) : Type 0 where
  pub slab : chunk.next.within ≡ 0
  pub more : number_at l chunk.next < total l
  pub fits : chunk.values < capacity

-- the values of the chunk stand at the start of the slice, and the chunk has the cursor after them
pub record Collected (is_transparent : Bool) (r : Reading) (s : Use SourceView) (chunk : Chunk) : Type 0 where
  pub fits : chunk.values * r.slabs.size ≤ length r.buf
  pub returns_values : ReturnsValues is_transparent (walk_of r) s.before s.after (values_in r chunk.values) chunk.values
  pub is_cursor : IsCursor r.slabs chunk.next
  pub number : number_at r.slabs chunk.next ≡ number_at r.slabs r.cursor + chunk.values

-- Where the chunk ends with its slab, all bytes came that the source was asked for: also from an opaque source.
abbrev pub ReadToSlabEnd : {S : Type 0} → Slabs → Cursor → (S → SourceView) → S → S → Chunk → Type 0
ReadToSlabEnd l cursor view old new chunk = chunk.next.within ≡ 0 → ReadValues l (number_at l cursor) (view old) (view new) chunk.values

-- what reading a chunk has done: values were collected, or a fault was found
abbrev pub Collects : Bool → Reading → Use SourceView → Result Chunk WalkFault → Type 0
Collects is_transparent r s (Ok chunk) = Collected is_transparent r s chunk
Collects is_transparent r s (Err ReadFailed) = (n : ℕ) × Failing (walk_of r) s.before s.after n
Collects is_transparent r s (Err (DataTruncated k)) = Truncated is_transparent (walk_of r) s.before s.after k
