use Rattle.nc_report.proofs.Reported.{is-report}
use Rattle.nc_report.proofs.report.check.Goals as goal

pub returns-clause-report : goal.returns-clause-report
returns-clause-report g c = is-report _ _ _ _ c.in_ok-listing.ensures.listing c.in_ok-findings.ensures.all c.in_ok-findings.ensures.in_order
