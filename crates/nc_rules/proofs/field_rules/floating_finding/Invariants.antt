use Rattle.nc_rules.proofs.Prelude.{find, indexed, indexed_from, is_floating, ◌≡◌, drop}
use Rattle.nc_rules.proofs.field_rules.floating_finding.Given as goal

abbrev pub invariant-loop-i : goal.invariant-loop-i
invariant-loop-i l = find is_floating (indexed_from l.i (drop l.i l.entries)) ≡ find is_floating (indexed l.entries)
