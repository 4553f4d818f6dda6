-- For contracts. The data part of a file whose arrays may lack values at their end, by its header and what is listed.
use Rattle.std.specs.Prelude.{ℕ, List, zip}
use Rattle.std.specs.List.{flat_map, range_with_len}
use Rattle.nc_base.specs.declared.header.Header.{Header}
use Rattle.nc_base.specs.GeneratedFile.{data_of, is_sole_narrow, known_records, record_part}
use Rattle.nc_base.specs.code.OwedValues.{AreListed, whole_arrays}
use Rattle.nc_base.specs.Sizes.{record_vars}

-- for each variable these bytes are its first values, or all of them
abbrev pub AreListedOf : Header → List (List ℕ) → Type 0
AreListedOf h listed = AreListed h.dims (known_records h.numrecs) h.vars listed

-- the arrays with the values that they lack
abbrev pub whole_arrays_of : Header → List (List ℕ) → List (List ℕ)
whole_arrays_of h listed = whole_arrays h.dims (known_records h.numrecs) h.vars listed

-- the data part
abbrev pub whole_data : Header → List (List ℕ) → List ℕ
whole_data h listed = data_of h (whole_arrays_of h listed)

-- its record r
abbrev pub whole_record : Header → List (List ℕ) → ℕ → List ℕ
whole_record h listed r = flat_map (record_part (is_sole_narrow (record_vars h.dims h.vars)) h.dims r) (zip h.vars (whole_arrays_of h listed))

-- all of its records
abbrev pub whole_records : Header → List (List ℕ) → List ℕ
whole_records h listed = flat_map (whole_record h listed) (range_with_len 0 (known_records h.numrecs))
