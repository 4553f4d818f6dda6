-- For contracts. Reading on in a file that isn't netCDF.
use Rattle.std.specs.Prelude.{ℕ, ◌==◌, ◌&&◌, not, Bool, if◌then◌else◌, List, [], ◌++◌, length, take, slice_get, codes}
use Rattle.std.specs.Option.{option_map_or}
use Rattle.std.specs.Str.{bytes_eq}
use Rattle.nc_types.specs.Bytes.{Bytes}
use Rattle.nc_findings.specs.declared.{entry.Content.Content, entry.Entry.Entry}
use Rattle.nc_findings.specs.declared.entry.Content.TheVariants as content

-- the bytes that a field is, or none if it is something else
abbrev pub bytes_of : Content → Bytes
bytes_of (content.Bytes bytes) = bytes
bytes_of c = []

-- what is kept of the first of these fields
abbrev pub letters_of : List Entry → Bytes
letters_of entries = option_map_or (λ (e : Entry). bytes_of e.content) (slice_get entries 0) []

-- these first bytes of a file aren't `CDF`, and reading has stopped after them, at this offset
abbrev pub is_foreign : Bytes → ℕ → Bool
is_foreign letters end = not (bytes_eq letters (codes "CDF")) && (length letters == end)

-- if it has, what is kept of the start of the file: these bytes, and those of the rest up to the offset 52
abbrev pub start_after : Bytes → ℕ → Bytes → Bytes
start_after letters end rest = if is_foreign letters end then letters ++ take 49 rest else []
