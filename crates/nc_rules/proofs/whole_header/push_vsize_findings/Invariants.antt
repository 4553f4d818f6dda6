use Rattle.nc_rules.proofs.Prelude.{option_to_list, each_slot, vsize_finding_at, ◌≡◌, ◌++◌, drop, slice_get}
use Rattle.nc_rules.proofs.whole_header.push_vsize_findings.Given as goal

abbrev pub invariant-loop-i : goal.invariant-loop-i
invariant-loop-i l =
    l.found ++ each_slot (λ i slot. option_to_list (vsize_finding_at l.layout.version slot (slice_get l.vsizes i))) l.i (drop l.i l.slots)
    ≡ l.fn.found ++ each_slot (λ i slot. option_to_list (vsize_finding_at l.layout.version slot (slice_get l.vsizes i))) 0 l.slots
