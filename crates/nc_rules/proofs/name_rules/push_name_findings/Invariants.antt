use Rattle.nc_rules.proofs.Prelude.{indexed, indexed_from, each_after, duplicate_name, HasFirst, ◌≡◌, [], ◌++◌, take, drop}
use Rattle.nc_rules.proofs.name_rules.push_name_findings.Given as goal

abbrev pub invariant-loop-i : goal.invariant-loop-i
invariant-loop-i l = record {
  names : HasFirst l.names (indexed (take l.i l.entries));
  found : l.found ++ each_after duplicate_name (indexed (take l.i l.entries)) (indexed_from l.i (drop l.i l.entries))
      ≡ l.fn.found ++ each_after duplicate_name [] (indexed l.entries);
}
