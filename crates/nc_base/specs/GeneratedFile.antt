-- Definition. The file of a dataset: the one spelling of its header, and its values as one concatenation.
use Rattle.std.specs.Prelude.{ℕ, ◌+◌, ◌*◌, ◌/◌, Bool, false, nat_lt, not, if◌then◌else◌, List, [], ◌∷◌, ◌++◌, length, filter, take, drop, replicate, zip}
use Rattle.std.specs.List.{concat, flat_map, list_all, range_with_len}
use Rattle.nc_base.specs.declared.{header.Dim.Dim, header.Var.Var, header.Header.Header, header.NumRecs.NumRecs, dataset.Dataset.Dataset}
use Rattle.nc_base.specs.declared.header.NumRecs.TheVariants.{Known, Streaming}
use Rattle.nc_types.specs.Bytes.{Bytes, padding_len}
use Rattle.nc_types.specs.Types.{size_of}
use Rattle.nc_base.specs.Numbers.{bytes_of_number}
use Rattle.nc_types.specs.Versions.{offset_limit}
use Rattle.nc_base.specs.Sizes.{is_record_var, is_narrow, slab_size, padded_total, record_vars}
use Rattle.nc_base.specs.Fill.{fill_value}
use Rattle.nc_base.specs.Grammar.{header_spelling}

-- ---- the values

-- n bytes of a variable's fill value (n is a multiple of its size)
unfoldable pub fill_bytes : Var → ℕ → Bytes
fill_bytes var n = concat (replicate (n / size_of var.ty) (bytes_of_number var.ty (fill_value var)))

-- a slab, and fill values up to the next multiple of four
unfoldable pub padded_slab : Var → Bytes → Bytes
padded_slab var slab = slab ++ fill_bytes var (padding_len (length slab))

-- the padded slab of a variable; nothing of a record variable
abbrev pub block : List Dim → Var × Bytes → Bytes
block dims (var, array) = if is_record_var dims var then [] else padded_slab var array

-- there is only one of these record variables, and it is narrow: its slabs have no padding
abbrev pub is_sole_narrow : List Var → Bool
is_sole_narrow (var ∷ []) = is_narrow var
is_sole_narrow vars = false

abbrev pub slab_in : List Dim → Var → Bytes → ℕ → Bytes
slab_in dims var array r = take (slab_size dims var) (drop (r * slab_size dims var) array)

-- the slab of a record variable in record r; nothing of another variable
abbrev pub record_part : Bool → List Dim → ℕ → Var × Bytes → Bytes
record_part unpadded dims r (var, array) =
    if is_record_var dims var then (if unpadded then slab_in dims var array r else padded_slab var (slab_in dims var array r)) else []

-- the number of records, which is known in a dataset
abbrev pub known_records : NumRecs → ℕ
known_records (Known n) = n
known_records Streaming = 0

-- the blocks in header order, and after them one record after the other: its slabs in header order
unfoldable pub data_of : Header → List Bytes → Bytes
data_of h arrays =
    let pairs = zip h.vars arrays in
    let unpadded = is_sole_narrow (record_vars h.dims h.vars) in
    flat_map (block h.dims) pairs ++ flat_map (λ r. flat_map (record_part unpadded h.dims r) pairs) (range_with_len 0 (known_records h.numrecs))

-- ---- the file

-- the variables that aren't record variables
abbrev pub fixed_vars : List Dim → List Var → List Var
fixed_vars dims vars = filter (λ (var : Var). not (is_record_var dims var)) vars

-- the variables whose padded slabs come before the values of a variable: the slabs of all fixed variables come first, then record 0;
-- `before` are the variables before it in the header
abbrev pub slabs_before : Header → List Var → Var → List Var
slabs_before h before var =
    if is_record_var h.dims var then fixed_vars h.dims h.vars ++ record_vars h.dims before else fixed_vars h.dims before

-- the begin of a variable (a begin takes the same bytes of the header, whatever it is)
abbrev pub begin_after : Header → List Var → Var → ℕ
begin_after h before var = length (header_spelling h) + padded_total h.dims (slabs_before h before var)

abbrev pub vars_with_begins : Header → List Var → List Var → List Var
vars_with_begins h before [] = []
vars_with_begins h before (var ∷ vars) = record var { begin_at = begin_after h before var } ∷ vars_with_begins h (before ++ var ∷ []) vars

unfoldable pub with_begins : Header → Header
with_begins h = record h { vars = vars_with_begins h [] h.vars }

-- each begin that `with_begins` sets fits its field
abbrev pub fits : Header → Bool
fits h = list_all (λ (var : Var). nat_lt var.begin_at (offset_limit h.version)) (with_begins h).vars

unfoldable pub file_of : Dataset → Bytes
file_of d = header_spelling (with_begins d.header) ++ data_of d.header d.arrays
