-- For contracts. The slabs of a record, and the arrays that they are of.
use Rattle.std.specs.Prelude.{ℕ, ◌+◌, List, [], ◌∷◌, ◌++◌, get_or, map, if◌then◌else◌}
use Rattle.std.specs.List.{flat_map, range_with_len}
use Rattle.nc_base.specs.declared.{header.Dim.Dim, header.Var.Var}
use Rattle.nc_base.specs.Sizes.{is_record_var}
use Rattle.nc_walk.specs.declared.write.record_slab.RecordSlab.{RecordSlab}
use Rattle.nc_walk.specs.code.Filled.{ArrayView, filled_records, slab_fill}

-- the slab of the variable with index v
abbrev pub record_slab : ℕ → List Dim → Var → RecordSlab
record_slab v dims var = record { var_index = v; slab = slab_fill dims var }

-- those of the record variables among these; the first variable has index v
abbrev pub record_slabs : ℕ → List Dim → List Var → List RecordSlab
record_slabs v dims (var ∷ vars) = (if is_record_var dims var then record_slab v dims var ∷ [] else []) ++ record_slabs (v + 1) dims vars
record_slabs v dims [] = []

-- the array of a slab's variable, among those of all variables
abbrev pub array_of : List (List ℕ) → RecordSlab → ArrayView
array_of arrays slab = record { listed = get_or arrays slab.var_index []; slab = slab.slab }

-- record r of these slabs
abbrev pub record_in : List RecordSlab → List (List ℕ) → ℕ → List ℕ
record_in slabs arrays r = filled_records r (map (array_of arrays) slabs)

-- n records of them
abbrev pub records_in : List RecordSlab → List (List ℕ) → ℕ → List ℕ
records_in slabs arrays n = flat_map (record_in slabs arrays) (range_with_len 0 n)
