use Rattle.nc_layout.proofs.Prelude.{IsPermutation-append_right, layout_findings, arith, append_assoc}
use Rattle.nc_layout.proofs.findings.layout_findings.Goals as goal

pub returns : goal.returns
unfolding layout_findings
returns c = grind (arith, append_assoc, IsPermutation-append_right)
