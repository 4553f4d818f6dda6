use Rattle.nc_rules.proofs.Located.{whole-findings, broken-findings}
use Rattle.nc_rules.proofs.whole_header.push_whole_findings.Goals as goal

pub returns-in_ok-push_layout_findings : goal.returns-in_ok-push_layout_findings
returns-in_ok-push_layout_findings c =
    λ sound. whole-findings c.args.listing.now c.in-Ok.header c.in-Some.layout c.in_ok-fields.fields c.as_slice-in-Some.result.now c.args.found.now _ _ _ c.in-Ok.is c.in_ok-layout.ensures c.in-Some.is c.as_slice-in-Some.ensures c.in_ok-fields.ensures c.in_ok-push_vsize_findings.ensures c.in_ok-push_layout_findings.ensures

pub returns-in_default : goal.returns-in_default
returns-in_default c =
    broken-findings c.args.listing.now c.in_default.field-0 _ _ c.args.found.now _ _ c.in_default.is c.as_slice.ensures c.hdf5_truncated-cut.ensures c.push_some.ensures
