-- Each list of bytes has one report.
use Rattle.nccheck_laws.proofs.Prelude.{Listing, Finding, Report, all_findings, IsPermutation-sym, IsPermutation-trans, finding_cmp, IsPermutation, same-lists, ◌≡◌, List, sym, subst}
use Rattle.nc_rules.proofs.Found.{findings-total}
use Rattle.nccheck_laws.specs.OneReport.{EachFileHasReport, ReportsAreOne}
use Rattle.nccheck_laws.proofs.OneListing.{listing_of, one-listing}
use Rattle.nccheck_laws.proofs.SameFindings.{same-finding}
use Rattle.nccheck_laws.proofs.Sorted.{sorted, sorted-permutation, sorted-up}

pub each-has-report : EachFileHasReport
each-has-report bytes =
    let listing = listing_of bytes in
    let findings = all_findings listing.0 in (
      record { listing = listing.0; findings = sorted finding_cmp findings-total findings },
      record {
        listing = listing.1;
        all = sorted-permutation finding_cmp findings-total findings;
        in_order = sorted-up finding_cmp findings-total findings;
      },
    )

same-report : (k l : Listing) (fs gs : List Finding) → k ≡ l → fs ≡ gs
    → (let one : Report = record { listing = k; findings = fs } in
    let two : Report = record { listing = l; findings = gs } in
    one ≡ two)
same-report k l fs gs listings findings = cc

pub reports-are-one : ReportsAreOne
reports-are-one bytes r s one two =
    let listings = one-listing bytes r.listing s.listing one.listing two.listing in
    let all = subst (λ (l : Listing). IsPermutation (all_findings l) s.findings) (sym listings) two.all in
    same-report r.listing s.listing r.findings s.findings listings
    (same-lists finding_cmp findings-total same-finding r.findings s.findings
    (IsPermutation-trans r.findings (all_findings r.listing) s.findings (IsPermutation-sym (all_findings r.listing) r.findings one.all) all)
    one.in_order two.in_order)
