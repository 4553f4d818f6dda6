-- Law. What a report says of the values of a file, whatever their types: whether each is in the file, and in bytes of its own. Without an
-- error, all of them are.
use Rattle.std.specs.Prelude.{ℕ, ◌≡◌, ◌≢◌, ◌+◌, ◌≤◌, ◌⊎◌, false, List, flat_map, length, map, Ok}
use Rattle.std.specs.List.{All, AllPairs, list_any}
use Rattle.nc_base.specs.declared.{header.Header.Header, header.Var.Var}
use Rattle.nc_types.specs.Bytes.{Bytes}
use Rattle.nc_base.specs.Places.{value_offsets}
use Rattle.nc_base.specs.Sizes.{record_count}
use Rattle.nc_types.specs.Types.{size_of}
use Rattle.nc_layout.specs.HeaderLayout.{layout_of}
use Rattle.nccheck_laws.specs.HeaderLaws.{lacks_values}
use Rattle.nccheck_laws.specs.LayoutLaws.{is_of_shared_bytes, SharesNoByte}
use Rattle.nc_findings.specs.declared.{finding.Finding.Finding, report.Report.Report}
use Rattle.nc_findings.specs.declared.kind.Severity.TheVariants.{Error}
use Rattle.nc_findings.specs.Kinds.{kind_of, severity_of}
use Rattle.nc_report.specs.Reports.{IsReport}
use Rattle.nccheck_laws.specs.FaultLaws.{finds_missing}
use Rattle.nccheck_laws.specs.ReportLaws.{has_any, is_of_layout}

-- if the header is listed to its end, then values are found to be missing exactly if some variable has a first missing value
abbrev pub ListedHeadersTellMissingValues : Type 0
ListedHeadersTellMissingValues = (bytes : Bytes) (r : Report) (h : Header) → IsReport bytes r → r.listing.header ≡ Ok h
    → finds_missing r ≡ list_any (lacks_values h bytes) h.vars

-- and if nothing is found that lets slabs share bytes, then no byte lies in two slabs, or in a slab and the header
abbrev pub ListedHeadersHaveSlabsApart : Type 0
ListedHeadersHaveSlabsApart = (bytes : Bytes) (r : Report) (h : Header) → IsReport bytes r → r.listing.header ≡ Ok h
    → has_any (is_of_layout is_of_shared_bytes) r.findings ≡ false → SharesNoByte (layout_of h r.listing.end (length bytes))

-- where a value stands: from its offset up to its end
pub record ValuePlace : Type 0 where
  pub begin : ℕ
  pub end : ℕ

-- that of the value of this size at an offset
abbrev pub value_place : ℕ → ℕ → ValuePlace
value_place size offset = record { begin = offset; end = offset + size }

-- where the values of a variable stand over n records
abbrev pub variable_places : Header → ℕ → Var → List ValuePlace
variable_places h n var = map (value_place (size_of var.ty)) (value_offsets h var n)

-- and those of all variables in a file of this length
abbrev pub value_places : Header → ℕ → List ValuePlace
value_places h file_len = flat_map (variable_places h (record_count h file_len)) h.vars

-- the values have no byte in common
abbrev pub HaveOwnBytes : ValuePlace → ValuePlace → Type 0
HaveOwnBytes a b = (a.end ≤ b.begin) ⊎ (b.end ≤ a.begin)

-- no two values in a file of this length have a byte in common, and none has a byte of the header, which ends here
pub record HasValuesApart (h : Header) (header_end file_len : ℕ) : Type 0 where
  pub values : AllPairs HaveOwnBytes (value_places h file_len)
  pub header : All (λ (value : ValuePlace). header_end ≤ value.begin) (value_places h file_len)

-- where no two slabs share a byte, nor a slab and the header, values don't either: those of a slab stand in it, one after the other
abbrev pub ApartSlabsHaveValuesApart : Type 0
ApartSlabsHaveValuesApart = (h : Header) (header_end file_len : ℕ) → SharesNoByte (layout_of h header_end file_len)
    → HasValuesApart h header_end file_len

-- no finding is an error
abbrev pub HasNoError : Report → Type 0
HasNoError r = All (λ (f : Finding). severity_of (kind_of f.fact) ≢ Error) r.findings

-- each value of a variable is in the file, and shares no byte with another one or with the header, which ends here; nor does a slab
pub record HasValues (bytes : Bytes) (h : Header) (header_end : ℕ) : Type 0 where
  pub whole : list_any (lacks_values h bytes) h.vars ≡ false
  pub slabs : SharesNoByte (layout_of h header_end (length bytes))
  pub apart : HasValuesApart h header_end (length bytes)

-- if no finding is an error, then the header is listed to its end, and each value can be had
abbrev pub ReportsWithoutErrorsHaveValues : Type 0
ReportsWithoutErrorsHaveValues = (bytes : Bytes) (r : Report) → IsReport bytes r → HasNoError r
    → (h : Header) × (r.listing.header ≡ Ok h) × HasValues bytes h r.listing.end
