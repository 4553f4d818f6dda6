-- Definition. Where the values of a variable lie in a file, and which of them the file has.
use Rattle.std.specs.Prelude.{ℕ, ◌+◌, ◌*◌, nat_lt, Bool, ℤ, if◌then◌else◌, List, [], ◌∷◌, length, map, take, drop, Option}
use Rattle.std.specs.List.{flat_map, position, range_with_len}
use Rattle.nc_types.specs.Bytes.{Bytes}
use Rattle.nc_base.specs.declared.{header.Dim.Dim, header.Var.Var, header.Header.Header}
use Rattle.nc_types.specs.Types.{size_of}
use Rattle.nc_base.specs.Numbers.{number_of}
use Rattle.nc_base.specs.Sizes.{is_record_var, slab_lens, product, record_size}

-- ---- index vectors

-- the lengths of a variable's dimensions; that of the record dimension, which comes first, is n
abbrev pub lens_over : List Dim → Var → ℕ → List ℕ
lens_over dims var n = if is_record_var dims var then n ∷ slab_lens dims var.dimids else slab_lens dims var.dimids

-- all vectors of indices below these lengths (one empty vector, if there are none), in row-major order: the last index varies fastest
abbrev pub vectors_below : List ℕ → List (List ℕ)
vectors_below [] = [] ∷ []
vectors_below (n ∷ ns) = flat_map (λ i. map (λ indices. i ∷ indices) (vectors_below ns)) (range_with_len 0 n)

-- ---- offsets

-- the stride of each of these dimensions, in bytes: the size of a value, times the lengths of the dimensions after it
abbrev pub slab_strides : ℕ → List ℕ → List ℕ
slab_strides size [] = []
slab_strides size (n ∷ ns) = size * product ns ∷ slab_strides size ns

-- the stride of the record dimension is the record size
abbrev pub strides : Header → Var → List ℕ
strides h var =
    let of_slab = slab_strides (size_of var.ty) (slab_lens h.dims var.dimids) in
    if is_record_var h.dims var then record_size h ∷ of_slab else of_slab

-- how far these indices lead along as many strides
abbrev pub distance : List ℕ → List ℕ → ℕ
distance [] strides = 0
distance (i ∷ indices) [] = 0
distance (i ∷ indices) (stride ∷ strides) = i * stride + distance indices strides

abbrev pub value_offset : Header → Var → List ℕ → ℕ
value_offset h var indices = var.begin_at + distance indices (strides h var)

-- in row-major order
unfoldable pub value_offsets : Header → Var → ℕ → List ℕ
value_offsets h var n = map (value_offset h var) (vectors_below (lens_over h.dims var n))

-- ---- values

-- the bytes of the value of this size at an offset, as far as the file has them
abbrev pub bytes_at : ℕ → Bytes → ℕ → Bytes
bytes_at size bytes offset = take size (drop offset bytes)

-- each value of a variable over n records
abbrev pub stored_bytes : Header → Bytes → Var → ℕ → List Bytes
stored_bytes h bytes var n = map (bytes_at (size_of var.ty) bytes) (value_offsets h var n)

abbrev pub stored_values : Header → Bytes → Var → ℕ → List ℤ
stored_values h bytes var n = map (number_of var.ty) (stored_bytes h bytes var n)

-- the value of this size at an offset isn't wholly inside the file
abbrev pub ends_after : ℕ → ℕ → ℕ → Bool
ends_after size file_len offset = nat_lt file_len (offset + size)

-- the place, from 0, of the first missing value, if any
abbrev pub first_missing : Header → Bytes → Var → ℕ → Option ℕ
first_missing h bytes var n = position (ends_after (size_of var.ty) (length bytes)) (value_offsets h var n)
