use Rattle.nc_rules.proofs.Prelude.{flat_map, indexed, indexed_from, findings_at, ◌≡◌, ◌++◌, drop}
use Rattle.nc_rules.proofs.field_rules.push_field_findings.Given as goal

abbrev pub invariant-loop-i : goal.invariant-loop-i
invariant-loop-i l =
    l.found ++ flat_map (findings_at l.start) (indexed_from l.i (drop l.i l.entries)) ≡ l.fn.found ++ flat_map (findings_at l.start) (indexed l.entries)
