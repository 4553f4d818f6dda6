-- Law. Each list of bytes has exactly one report.
use Rattle.std.specs.Prelude.{◌≡◌}
use Rattle.nc_types.specs.Bytes.{Bytes}
use Rattle.nc_findings.specs.declared.report.Report.{Report}
use Rattle.nc_report.specs.Reports.{IsReport}

-- each list of bytes has a report
abbrev pub EachFileHasReport : Type 0
EachFileHasReport = (bytes : Bytes) → (r : Report) × IsReport bytes r

-- and only one
abbrev pub ReportsAreOne : Type 0
ReportsAreOne = (bytes : Bytes) (r s : Report) → IsReport bytes r → IsReport bytes s → r ≡ s
