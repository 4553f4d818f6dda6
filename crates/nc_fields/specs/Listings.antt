-- Definition. The listing of a header's fields.
use Rattle.std.specs.Prelude.{◌+◌, ℕ, ◌≡◌, if◌then◌else◌, [], codes, length, map, max, take, Result, Ok, Err}
use Rattle.std.specs.Str.{bytes_eq}
use Rattle.nc_base.specs.declared.{fault.FormatFault.FormatFault, header.Header.Header}
use Rattle.nc_types.specs.Bytes.{Bytes}
use Rattle.nc_base.specs.Grammar.{header_by}
use Rattle.nc_base.specs.Parts.{Spells}
use Rattle.nc_base.specs.code.PartRuns.{StopsWith}
use Rattle.devices.specs.Failures.{HasFailed}
use Rattle.devices.specs.Sources.{SourceView}
use Rattle.nc_findings.specs.declared.{listing.Listing.Listing, list_fault.ListFault.ListFault}
use Rattle.nc_findings.specs.declared.list_fault.ListFault.TheVariants.{ReadFailed}
use Rattle.nc_fields.specs.Fields.{fields}
use Rattle.nc_fields.specs.Entries.{seen, seen_by}
use Rattle.nc_fields.specs.Lenient.{lenient}

-- what the bytes spell by the lenient rules, or the fault of the first wrong field; the rest comes after it
abbrev pub IsOutcome : Bytes → Bytes → Result Header FormatFault → Type 0
IsOutcome bytes rest (Ok h) = Spells (header_by lenient) bytes h rest
IsOutcome bytes rest (Err fault) = StopsWith (header_by lenient) bytes fault rest

-- what is kept of the start of a file: the first 52 bytes of one that doesn't begin with `CDF`. In them the superblock of an HDF5 file says
-- where its data end.
abbrev pub start_of : Bytes → Bytes
start_of bytes = if bytes_eq (take 3 bytes) (codes "CDF") then [] else take 52 bytes

-- the listing of a file with these bytes: all fields that reading passes, the first wrong one after them, what reading gives, where it
-- ends, and the start of a file that isn't netCDF
pub record IsListing (bytes : Bytes) (l : Listing) : Type 0 where
  pub entries : map seen_by l.entries ≡ map (seen (length bytes)) (fields [] (header_by lenient) bytes)
  pub rest : Bytes
  pub header : IsOutcome bytes rest l.header
  pub start : l.start ≡ start_of bytes
  pub end : l.end + length rest ≡ length bytes
  pub file_len : l.file_len ≡ length bytes

-- how far the file was read for a listing: to the end of the header or of its first wrong field, or of what is kept of the start
abbrev pub read_end : Listing → ℕ
read_end l = max l.end (length l.start)

-- the source has failed in between if and only if the result is `ReadFailed`; `before` is how often it had failed before
abbrev pub Blames : {A : Type 0} → ℕ → SourceView → Result A ListFault → Type 0
Blames before now (Err ReadFailed) = HasFailed before now.failures
Blames before now _ = now.failures ≡ before
