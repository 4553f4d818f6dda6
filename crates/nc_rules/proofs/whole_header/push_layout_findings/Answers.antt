use Rattle.nc_rules.proofs.Located.{pushed-located}
use Rattle.nc_rules.proofs.whole_header.push_layout_findings.Goals as goal

pub returns : goal.returns
returns c = pushed-located c.args.fields.now c.args.layout.now _ _ _ _ _ c.in_ok-of_layout.ensures c.as_slice.ensures c.push_located.ensures
