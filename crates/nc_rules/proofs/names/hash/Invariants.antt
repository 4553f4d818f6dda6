use Rattle.nc_rules.proofs.Prelude.{hash, ◌≡◌, ◌<◌, ◌^◌, take}
use Rattle.nc_rules.proofs.names.hash.Given as goal

abbrev pub invariant-loop-b : goal.invariant-loop-b
invariant-loop-b l = record {
  below : l.sum < 2 ^ 32;
  is : l.sum ≡ hash (l.fn.list, take l.b-index l.name);
}
