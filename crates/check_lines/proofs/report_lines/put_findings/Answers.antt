use Rattle.std.proofs.Common.{rules}
use Rattle.std.proofs.lemmas.List.{get_or_default}
use Rattle.std.proofs.lemmas.Result.{err_from_is_err_and}
use Rattle.devices.proofs.Writes.{partway_next, wrote_next}
use Rattle.check_lines.proofs.report_lines.put_findings.Goals as goal

pub loop-finding-preserved : goal.loop-finding-preserved
loop-finding-preserved g c = record {
  written = search (rules, wrote_next, get_or_default);
  passed = c.in_ok-passed.ensures.passed;
}

pub returns-in_err-passed : goal.returns-in_err-passed
returns-in_err-passed g c =
    let p = err_from_is_err_and c.from_residual.result c.from_residual.ensures.1 in
    rw (p.1, ← c.as_slice-findings.ensures) (search (rules, partway_next, get_or_default))
