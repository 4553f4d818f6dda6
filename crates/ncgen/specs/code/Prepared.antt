-- For contracts. A file that stands ready to be written.
use Rattle.std.specs.Prelude.{◌≡◌, ◌<◌, ℕ, List, ◌++◌, All, Result, Ok, Err}
use Rattle.nc_base.specs.declared.{header.Header.Header, header.Var.Var}
use Rattle.nc_base.specs.GeneratedFile.{data_of, known_records}
use Rattle.nc_base.specs.Grammar.{header_spelling}
use Rattle.nc_base.specs.Headers.{IsSound}
use Rattle.nc_base.specs.code.OwedValues.{AreListed, whole_arrays}
use Rattle.nc_types.specs.Versions.{offset_limit}
use Rattle.nc_walk.specs.code.RecordSlabs.{record_slabs}
use Rattle.ncgen.specs.Generates.{Refuses}
use Rattle.ncgen.specs.declared.{fault.GenFault.GenFault, prepared.Prepared.Prepared}

-- the data part of a file: the listed values of the header's variables, filled up
abbrev pub listed_data : Header → List (List ℕ) → List ℕ
listed_data h listed = data_of h (whole_arrays h.dims (known_records h.numrecs) h.vars listed)

-- the file
unfoldable pub file_of_prepared : Prepared → List ℕ
file_of_prepared p = header_spelling p.header ++ listed_data p.header p.listed

-- its header is sound, each begin fits its field, of each variable no more is listed than it has, and its slabs are those of a record
pub record IsReady (p : Prepared) : Type 0 where
  pub sound : IsSound p.header
  pub begins : All (λ (var : Var). var.begin_at < offset_limit p.header.version) p.header.vars
  pub listed : AreListed p.header.dims (known_records p.header.numrecs) p.header.vars p.listed
  pub slabs : p.slabs ≡ record_slabs 0 p.header.dims p.header.vars

-- the stated file stands ready to be written; or there is the stated fault, or want of memory
abbrev pub Prepares : Result (List ℕ) GenFault → Result Prepared GenFault → Type 0
Prepares stated (Ok p) = IsReady p × (stated ≡ Ok (file_of_prepared p))
Prepares stated (Err fault) = Refuses stated fault
