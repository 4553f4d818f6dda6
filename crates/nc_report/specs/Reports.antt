-- Definition. The report of a file: all that is found in it, in order.
use Rattle.std.specs.Prelude.{IsPermutation}
use Rattle.std.specs.List.{AllPairs}
use Rattle.nc_types.specs.Bytes.{Bytes}
use Rattle.nc_fields.specs.Listings.{IsListing}
use Rattle.nc_findings.specs.declared.report.Report.{Report}
use Rattle.nc_rules.specs.Findings.{all_findings, IsInOrder}

-- the report of a file with these bytes
pub record IsReport (bytes : Bytes) (r : Report) : Type 0 where
  pub listing : IsListing bytes r.listing
  pub all : IsPermutation (all_findings r.listing) r.findings
  pub in_order : AllPairs IsInOrder r.findings
