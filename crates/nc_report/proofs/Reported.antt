-- What a report says of a listing.
use Rattle.std.proofs.Common.{Err, List, Ok, Result, subst, sym}
use Rattle.std.proofs.lemmas.Bool.{OnTrue_at, OnTrue_from}
use Rattle.std.specs.Bool.{OnTrue}
use Rattle.std.specs.List.{AllPairs}
use Rattle.std.specs.Prelude.{Bool, IsPermutation}
use Rattle.nc_base.specs.declared.{fault.FormatFault.FormatFault, header.Header.Header}
use Rattle.nc_types.specs.Bytes.{Bytes}
use Rattle.nc_fields.specs.Lenient.{lenient}
use Rattle.nc_fields.specs.Listings.{IsListing, IsOutcome}
use Rattle.nc_findings.specs.declared.{finding.Finding.Finding, listing.Listing.Listing}
use Rattle.nc_layout.proofs.SpelledLayouts.{spelled-layout}
use Rattle.nc_layout.specs.Findings.{IsSoundLayout}
use Rattle.nc_layout.specs.HeaderLayout.{layout_of}
use Rattle.nc_report.specs.Reports.{IsReport}
use Rattle.nc_rules.specs.Findings.{all_findings, IsInOrder}
use Rattle.nc_rules.specs.code.WholeHeaders.{HasSoundLayout}

-- the layout of a header that was read is sound
pub sound-listing : (bytes : Bytes) (l : Listing) → IsListing bytes l → HasSoundLayout l
sound-listing bytes l is = by-outcome l.header is.header
  where
    by-outcome : (r : Result Header FormatFault) → IsOutcome bytes is.rest r → HasSoundLayout (record l { header = r })
    by-outcome (Ok h) spelled = subst (λ n. IsSoundLayout (layout_of h l.end n)) (sym is.file_len) (spelled-layout lenient bytes h is.rest l.end spelled is.end)
    by-outcome (Err fault) stops = tt

-- the report of a source's bytes
pub is-report : (is_transparent : Bool) (bytes : Bytes) (l : Listing) (found : List Finding) → OnTrue is_transparent (IsListing bytes l) → (HasSoundLayout l → IsPermutation (all_findings l) found)
    → AllPairs IsInOrder found → OnTrue is_transparent (IsReport bytes (record { listing = l; findings = found }))
is-report is_transparent bytes l found listing all order =
    OnTrue_from is_transparent _ (λ known. let is = OnTrue_at known listing in record { listing = is; all = all (sound-listing bytes l is); in_order = order })
