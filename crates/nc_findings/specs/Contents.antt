-- Definition. What is kept of the content of a field.
use Rattle.std.specs.Prelude.{ℕ, [], ◌∷◌}
use Rattle.nc_types.specs.Bytes.{Bytes}
use Rattle.nc_findings.specs.declared.entry.Content.{Content}
use Rattle.nc_findings.specs.declared.entry.Content.TheVariants as content

-- the number that a field is (0, if it is none)
abbrev pub number_of : Content → ℕ
number_of (content.Number n) = n
number_of c = 0

-- the first bytes of an HDF5 file
abbrev pub hdf5_signature : Bytes
hdf5_signature = 0x89 ∷ 0x48 ∷ 0x44 ∷ 0x46 ∷ 0x0d ∷ 0x0a ∷ 0x1a ∷ 0x0a ∷ []
