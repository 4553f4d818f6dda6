use Rattle.nc_layout.proofs.Prelude.{append_assoc, arith}
use Rattle.nc_layout.specs.FileEnd.{end_findings}
use Rattle.nc_layout.proofs.file_end.push_end_findings.Goals as goal

pub returns : goal.returns
unfolding end_findings
returns c = grind (arith, append_assoc)
