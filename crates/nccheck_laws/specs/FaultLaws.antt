-- Law. The faults in a report and the values that it finds to be missing, and what the programs do that read the values of the file.
use Rattle.std.specs.Prelude.{ℕ, ◌≡◌, ◌+◌, ◌≤◌, ◌↔◌, min, Bool, true, false, Option, Some, None, is_some}
use Rattle.std.specs.List.{All, Contains, list_any}
use Rattle.nc_base.specs.declared.{fault.FormatFault.FormatFault, header.Header.Header}
use Rattle.nc_base.specs.declared.fault.FormatFault.TheVariants.{NotNetcdf, BadCount, BadName}
use Rattle.nc_types.specs.Bytes.{Bytes}
use Rattle.nc_base.specs.Grammar.{SpellsHeader, StopsAt}
use Rattle.nc_findings.specs.declared.entry.Entry.{Entry}
use Rattle.nccheck_laws.specs.HeaderLaws.{is_of_missing, lacks_values}
use Rattle.nc_findings.specs.declared.{finding.Fact.Fact, finding.Finding.Finding, report.Report.Report}
use Rattle.nc_findings.specs.declared.finding.Fact.TheVariants.{Fault, Hdf5, Gzip, EmptyFile, NameCharacters, LargeCount, Layout}
use Rattle.nc_report.specs.Reports.{IsReport}

-- the fault with which the programs that read values stop at the field at which this fact lies, if they do
abbrev pub strict_fault : Fact → Option FormatFault
strict_fault (Fault fault) = Some fault
strict_fault Hdf5 = Some NotNetcdf
strict_fault Gzip = Some NotNetcdf
strict_fault EmptyFile = Some NotNetcdf
strict_fault NameCharacters = Some BadName
strict_fault LargeCount = Some BadCount
strict_fault fact = None

-- the fact is a fault, then
abbrev pub is_fault : Fact → Bool
is_fault fact = is_some (strict_fault fact)

-- the fact is that values are missing
abbrev pub is_missing : Fact → Bool
is_missing (Layout fact) = is_of_missing fact
is_missing fact = false

-- a finding is that values are missing
abbrev pub finds_missing : Report → Bool
finds_missing r = list_any (λ (f : Finding). is_missing f.fact) r.findings

-- no finding is a fault
abbrev pub HasNoFault : Report → Type 0
HasNoFault r = All (λ (f : Finding). is_fault f.fact ≡ false) r.findings

-- the bytes begin with a header that can be read with the values of its attributes
abbrev pub IsReadable : Bytes → Type 0
IsReadable bytes = (h : Header) × (rest : Bytes) × SpellsHeader bytes h rest

-- A finding is this fault, and no finding at a lesser offset is a fault. It lies at a field of the listing that ends at this offset (if the
-- file ends inside of the field, that is the end of the file).
pub record FindsFirst (r : Report) (fault : FormatFault) (end : ℕ) : Type 0 where
  pub found : Finding
  pub in_report : Contains r.findings found
  pub fact : strict_fault found.fact ≡ Some fault
  pub first : All (λ (f : Finding). is_fault f.fact ≡ true → found.offset ≤ f.offset) r.findings
  pub field : Entry
  pub in_listing : Contains r.listing.entries field
  pub begins : found.offset ≡ field.offset
  pub ends : end ≡ min (field.offset + field.size) r.listing.file_len

-- a report has no fault exactly if the header can be read
abbrev pub FaultlessHeadersAreReadable : Type 0
FaultlessHeadersAreReadable = (bytes : Bytes) (r : Report) → IsReport bytes r → HasNoFault r ↔ IsReadable bytes

-- if reading the header stops with a fault, at this offset, then the first fault of the report is this one, at the field that ends there
abbrev pub FirstFaultIsReaders : Type 0
FirstFaultIsReaders = (bytes : Bytes) (r : Report) (fault : FormatFault) (end : ℕ) → IsReport bytes r → StopsAt bytes fault end
    → FindsFirst r fault end

-- if the header can be read, then a finding of the report is that values are missing exactly if some variable has a first missing value, at
-- which a dump stops
abbrev pub ReportsTellMissingValues : Type 0
ReportsTellMissingValues = (bytes : Bytes) (r : Report) (h : Header) (rest : Bytes) → IsReport bytes r → SpellsHeader bytes h rest
    → finds_missing r ≡ list_any (lacks_values h bytes) h.vars
