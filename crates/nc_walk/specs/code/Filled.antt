-- For contracts. What is written of a variable's array: the bytes that are listed, and fill values in place of those that are not.
use Rattle.std.specs.Prelude.{ℕ, ◌+◌, ◌-◌, ◌*◌, List, [], ◌∷◌, ◌++◌, length, take, drop, replicate, zip, if◌then◌else◌}
use Rattle.std.specs.List.{concat, flat_map}
use Rattle.nc_base.specs.declared.{header.Dim.Dim, header.Header.Header, header.Var.Var, listed_array.Run.Run}
use Rattle.nc_types.specs.Bytes.{padding_len}
use Rattle.nc_base.specs.GeneratedFile.{fill_bytes}
use Rattle.nc_base.specs.Sizes.{is_record_var, slab_size}
use Rattle.nc_walk.specs.declared.write.slab_fill.SlabFill.{SlabFill}

-- a value twice, four times and eight times
abbrev pub twice : List ℕ → List ℕ
twice value = value ++ value

abbrev pub four_times : List ℕ → List ℕ
four_times value = value ++ (value ++ (value ++ value))

abbrev pub eight_times : List ℕ → List ℕ
eight_times value = value ++ (value ++ (value ++ (value ++ (value ++ (value ++ (value ++ value))))))

-- the first n bytes of a unit that is repeated
unfoldable pub repeated : List ℕ → ℕ → List ℕ
repeated unit n = take n (concat (replicate n unit))

-- the bytes of a run: those that are listed, and those that fill it up
abbrev pub run_bytes : Run → List ℕ
run_bytes run = run.bytes.now ++ replicate run.filling run.fill

-- the bytes of a slab of a variable, and eight bytes of its fill values
abbrev pub slab_fill : List Dim → Var → SlabFill
slab_fill dims var = record { len = slab_size dims var; fill_unit = fill_bytes var 8 }

-- a variable's array as far as it is listed, the bytes of one of its slabs, and eight bytes of its fill values
pub record ArrayView : Type 0 where
  pub listed : List ℕ
  pub slab : SlabFill

-- the listed bytes of a slab, and fill values up to the slab's end and on to the next multiple of four
abbrev pub filled_slab : ArrayView → List ℕ → List ℕ
filled_slab array part = part ++ repeated array.slab.fill_unit (array.slab.len - length part + padding_len array.slab.len)

-- the slab with the listed bytes from `start` on: n bytes, or fewer if the list ends
abbrev pub filled_part : ArrayView → ℕ → ℕ → List ℕ
filled_part array start n = filled_slab array (take n (drop start array.listed))

-- the slab of record r
abbrev pub filled_record : ℕ → ArrayView → List ℕ
filled_record r array = filled_part array (r * array.slab.len) array.slab.len

-- the slabs of n records, none of them padded
abbrev pub filled_slabs : ℕ → ArrayView → List ℕ
filled_slabs n array = array.listed ++ repeated array.slab.fill_unit (n * array.slab.len - length array.listed)

-- the array of a variable with these listed bytes
abbrev pub array_view : List Dim → Var → List ℕ → ArrayView
array_view dims var listed = record { listed = listed; slab = slab_fill dims var }

-- the block of a variable; nothing of a record variable
abbrev pub block_of : List Dim → Var → List ℕ → List ℕ
block_of dims var listed = if is_record_var dims var then [] else filled_slab (array_view dims var listed) listed

-- the blocks of the variables that aren't record variables
abbrev pub filled_blocks : List Dim → List Var → List (List ℕ) → List ℕ
filled_blocks dims vars arrays = flat_map (λ (p : Var × List ℕ). block_of dims p.0 p.1) (zip vars arrays)

-- those of a file with this header
abbrev pub blocks_of : Header → List (List ℕ) → List ℕ
blocks_of h arrays = filled_blocks h.dims h.vars arrays

-- the arrays of the record variables
abbrev pub record_arrays : List Dim → List Var → List (List ℕ) → List ArrayView
record_arrays dims vars arrays = flat_map (λ (p : Var × List ℕ). if is_record_var dims p.0 then array_view dims p.0 p.1 ∷ [] else []) (zip vars arrays)

-- a record of these variables: a slab of each
abbrev pub filled_records : ℕ → List ArrayView → List ℕ
filled_records r arrays = flat_map (filled_record r) arrays
