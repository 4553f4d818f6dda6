use Rattle.devices.proofs.Writes.{IsWritten}
use Rattle.check_lines.specs.Lines.{if_reported}
use Rattle.check_lines.specs.code.Names.{IsPassed}
use Rattle.check_lines.specs.code.Styles.{finding_in}
use Rattle.check_lines.proofs.report_lines.put_findings.Given as goal

abbrev pub invariant-loop-finding : goal.invariant-loop-finding
invariant-loop-finding g l = record {
  written :
      IsWritten (g.W.Sink.view l.fn.sink) (g.W.Sink.view l.sink)
      (if_reported (finding_in l.style l.file l.report.listing) l.filter) l.findings l.finding-index;
  passed : IsPassed l.report.listing.entries (record { count = l.passed.0; names = l.passed.1.0 });
}
