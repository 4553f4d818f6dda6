use Rattle.nccheck_laws.proofs.OneReport.{each-has-report, reports-are-one}
use Rattle.nccheck_laws.proofs.laws.one_report.Goals as goal

pub returns-clause-exists : goal.returns-clause-exists
returns-clause-exists c = each-has-report

pub returns-clause-one : goal.returns-clause-one
returns-clause-one c = reports-are-one
