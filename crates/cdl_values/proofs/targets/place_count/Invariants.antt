use Rattle.cdl_values.proofs.Prelude.{dim_len, product, most, ◌≡◌, ◌*◌, ◌<◌, ◌≤◌, drop, get_or, map, min, ℕ}
use Rattle.cdl_values.proofs.targets.place_count.Given as goal

-- what has been multiplied, times the lengths that are left, keeps the capped product
abbrev pub invariant-loop-id : goal.invariant-loop-id
invariant-loop-id l = record {
  capped : min (l.count * product (map (dim_len l.dims) (drop l.id-index l.dimids))) most ≡ min (product (map (dim_len l.dims) l.dimids)) most;
  fits : l.count ≤ most;
  each : (k : ℕ) → k < l.id-index → dim_len l.dims (get_or l.dimids k 0) ≤ most;
}
