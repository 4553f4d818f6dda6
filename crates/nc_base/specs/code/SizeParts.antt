-- For contracts. What the parts of the functions on sizes give: words of their contracts, and none of the format's.
use Rattle.std.specs.Prelude.{◌≡◌, ◌≤◌, ℕ, ◌+◌, ◌-◌, ◌*◌, Bool, nat_lt, nat_le, ◌==◌, ◌&&◌, not, if◌then◌else◌, List, length, map, slice_get, slice_index, IfSome, Option, Some, None, SomeIff}
use Rattle.std.specs.List.{list_all}
use Rattle.nc_base.specs.declared.{header.Dim.Dim, header.Var.Var, header.Header.Header}
use Rattle.nc_types.specs.declared.{nc_type.NcType.NcType}
use Rattle.nc_base.specs.Sizes.{value_count, is_record_dim, is_record_var, slab_size, padded_size, record_vars, record_size, slab_limit, record_limit, slab_len}

-- the id is that of a dimension other than the record dimension
abbrev pub is_fixed_dim : List Dim → ℕ → Bool
is_fixed_dim dims id = nat_lt id (length dims) && not (is_record_dim dims id)

-- how many bytes the slab of the variable at index v has
abbrev pub slab_at : Header → ℕ → ℕ
slab_at h v = slice_index (map (slab_size h.dims) h.vars) v

-- a slab keeps the limit
abbrev pub has_small_slab : List Dim → Var → Bool
has_small_slab dims var = nat_le (slab_size dims var) slab_limit

-- the bytes that the slab of a record variable takes in a record: not padded if `narrow` (it is the only one, and narrow); one more than a
-- record may have, if it passes the limit of a slab
abbrev pub slab_if : List Dim → Bool → Var → ℕ
slab_if dims narrow var =
    if has_small_slab dims var then (if narrow then slab_size dims var else padded_size dims var) else record_limit + 1

-- the record size, or None if the slab of a record variable or the record size itself passes its limit
abbrev pub checked_record_size : Header → Option ℕ
checked_record_size h =
    if list_all (has_small_slab h.dims) (record_vars h.dims h.vars) && nat_le (record_size h) record_limit
    then Some (record_size h) else None

-- the first offset after the last value that a variable has over n records: its begin, where it has none
abbrev pub extent_sum : Header → ℕ → Var → ℕ
extent_sum h records var =
    if is_record_var h.dims var
    then (if records == 0 then var.begin_at else var.begin_at + (records - 1) * record_size h + slab_size h.dims var)
    else var.begin_at + slab_size h.dims var

-- this is the number of values that the variable at this index has over n records, if there is one
abbrev pub CountsValues : Header → ℕ → ℕ → ℕ → Type 0
CountsValues h v records count = IfSome (slice_get h.vars v) (λ (var : Var). count ≡ value_count h.dims var records)

-- `slab` is how many bytes a slab of this shape and type has, or None if that passes the limit
abbrev pub IsCappedSlab : List Dim → List ℕ → NcType → Option ℕ → Type 0
IsCappedSlab dims dimids ty slab = SomeIff slab (slab_len dims dimids ty ≤ slab_limit) (slab_len dims dimids ty)
