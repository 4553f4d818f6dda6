use Rattle.nc_layout.proofs.Prelude.{each_slot, slot_findings, HasPassed, ◌≡◌, ◌++◌, drop}
use Rattle.nc_layout.proofs.slot_rules.push_slot_findings.Given as goal

abbrev pub invariant-loop-i : goal.invariant-loop-i
invariant-loop-i l = record {
  found : l.found ++ each_slot (slot_findings l.layout) l.i (drop l.i l.slots) ≡ l.fn.found ++ each_slot (slot_findings l.layout) 0 l.slots;
  passed : HasPassed l.slots l.i l.passed;
}
