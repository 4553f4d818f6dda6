-- For contracts. The bytes that are listed of one variable of a header.
use Rattle.std.specs.Prelude.{ℕ, List, IfSome, slice_get}
use Rattle.nc_base.specs.declared.header.Header.{Header}
use Rattle.nc_base.specs.GeneratedFile.{known_records}
use Rattle.nc_base.specs.code.OwedValues.{IsListed}

-- they are the first values of the variable at this index, or all of them
abbrev pub IsListedAt : Header → ℕ → List ℕ → Type 0
IsListedAt h v listed = IfSome (slice_get h.vars v) (λ var. IsListed h.dims (known_records h.numrecs) var listed)
