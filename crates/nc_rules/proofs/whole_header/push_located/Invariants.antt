use Rattle.nc_rules.proofs.Prelude.{located_number, ◌≡◌, ◌++◌, map, drop}
use Rattle.nc_rules.proofs.whole_header.push_located.Given as goal

abbrev pub invariant-loop-finding : goal.invariant-loop-finding
invariant-loop-finding l = l.found ++ map (located_number l.fields) (drop l.finding-index l.of_layout) ≡ l.fn.found ++ map (located_number l.fields) l.of_layout
