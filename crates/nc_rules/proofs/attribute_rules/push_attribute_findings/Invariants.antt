use Rattle.nc_rules.proofs.Prelude.{indexed, indexed_from, ahead_of, attribute_finding, each_backward, ◌≡◌, ◌++◌, drop}
use Rattle.nc_rules.proofs.attribute_rules.push_attribute_findings.Given as goal

abbrev pub invariant-loop-i : goal.invariant-loop-i
invariant-loop-i l = record {
  ahead : l.ahead ≡ ahead_of (indexed_from l.i (drop l.i l.entries));
  found : l.found ≡ l.fn.found ++ each_backward (attribute_finding (indexed l.entries)) (indexed_from l.i (drop l.i l.entries));
}
