-- Definition. The sizes of a variable's slab and of a record, and the number of records. A slab is what a record variable has in
-- one record. Of any other variable it is all that the variable has.
use Rattle.std.specs.Prelude.{ℕ, ◌+◌, ◌-◌, ◌*◌, ◌/◌, ◌^◌, min, Bool, false, nat_lt, ◌==◌, ◌&&◌, if◌then◌else◌, List, [], ◌∷◌, length, map, filter, drop, slice_index, sum, Option}
use Rattle.std.specs.List.{list_any, reduce}
use Rattle.std.specs.Option.{option_map_or}
use Rattle.nc_base.specs.declared.{header.Dim.Dim, header.Var.Var, header.Header.Header, header.NumRecs.NumRecs}
use Rattle.nc_types.specs.declared.{nc_type.NcType.NcType}
use Rattle.nc_base.specs.declared.header.NumRecs.TheVariants.{Known, Streaming}
use Rattle.nc_types.specs.Bytes.{padding_len}
use Rattle.nc_types.specs.Types.{size_of}

abbrev pub dim_len : List Dim → ℕ → ℕ
dim_len dims id = slice_index (map (λ (d : Dim). d.len) dims) id

-- the record dimension is the one of length 0 (past the end of the list `dim_len` is 0, too)
abbrev pub is_record_dim : List Dim → ℕ → Bool
is_record_dim dims id = nat_lt id (length dims) && (dim_len dims id == 0)

abbrev pub has_record_dim : List Dim → Bool
has_record_dim dims = list_any (λ (dim : Dim). dim.len == 0) dims

-- the shape of a record variable: the record dimension comes first
abbrev pub is_record_shape : List Dim → List ℕ → Bool
is_record_shape dims [] = false
is_record_shape dims (id ∷ ids) = is_record_dim dims id

abbrev pub is_record_var : List Dim → Var → Bool
is_record_var dims var = is_record_shape dims var.dimids

-- the lengths of the dimensions, but for a record dimension in front
abbrev pub slab_lens : List Dim → List ℕ → List ℕ
slab_lens dims ids = map (dim_len dims) (if is_record_shape dims ids then drop 1 ids else ids)

abbrev pub product : List ℕ → ℕ
product [] = 1
product (n ∷ ns) = n * product ns

-- how many values a slab has
abbrev pub slab_count : List Dim → Var → ℕ
slab_count dims var = product (slab_lens dims var.dimids)

-- how many values a variable has over n records
abbrev pub value_count : List Dim → Var → ℕ → ℕ
value_count dims var n = slab_count dims var * (if is_record_var dims var then n else 1)

-- the bytes of a slab of this shape and type
abbrev pub slab_len : List Dim → List ℕ → NcType → ℕ
slab_len dims ids ty = product (slab_lens dims ids) * size_of ty

abbrev pub slab_size : List Dim → Var → ℕ
slab_size dims var = slab_len dims var.dimids var.ty

-- with the padding up to the next multiple of four
abbrev pub padded_size : List Dim → Var → ℕ
padded_size dims var = slab_size dims var + padding_len (slab_size dims var)

abbrev pub record_vars : List Dim → List Var → List Var
record_vars dims vars = filter (is_record_var dims) vars

-- a value has less than four bytes
abbrev pub is_narrow : Var → Bool
is_narrow var = nat_lt (size_of var.ty) 4

abbrev pub padded_total : List Dim → List Var → ℕ
padded_total dims vars = sum (map (padded_size dims) vars)

-- the bytes of a record of these variables: their padded slabs; but the slab of a sole variable has no padding if it is narrow
abbrev pub record_size_of : List Dim → List Var → ℕ
record_size_of dims (var ∷ []) = if is_narrow var then slab_size dims var else padded_size dims var
record_size_of dims vars = padded_total dims vars

-- the bytes from one record of a variable to its next
abbrev pub record_size : Header → ℕ
record_size h = record_size_of h.dims (record_vars h.dims h.vars)

-- this project's limits, in bytes: of a slab
abbrev pub slab_limit : ℕ
slab_limit = 2 ^ 48

-- of the array of a variable of a dataset
abbrev pub array_limit : ℕ
array_limit = 2 ^ 48

-- of a record
abbrev pub record_limit : ℕ
record_limit = 2 ^ 62

-- where the records begin: the least begin of these record variables, if there are any
abbrev pub records_begin : List Var → Option ℕ
records_begin vars = reduce min (map (λ (var : Var). var.begin_at) vars)

-- how many whole records of this size lie between their begin, if there is one, and the end of the file (the size isn't 0: only the record
-- dimension has length 0)
abbrev pub records_between : ℕ → Option ℕ → ℕ → ℕ
records_between size begin file_len = option_map_or (λ offset. (file_len - offset) / size) begin 0

-- the number of records: the one that the header has, or this one
abbrev pub known_or : NumRecs → ℕ → ℕ
known_or (Known n) by_length = n
known_or Streaming by_length = by_length

-- the number of records of a file of this length
abbrev pub record_count : Header → ℕ → ℕ
record_count h file_len = known_or h.numrecs (records_between (record_size h) (records_begin (record_vars h.dims h.vars)) file_len)
