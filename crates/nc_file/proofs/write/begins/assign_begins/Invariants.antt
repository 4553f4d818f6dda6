use Rattle.nc_file.proofs.Prelude.{◌≡◌, ◌+◌, ◌*◌, ◌^◌, ◌<◌, ◌≤◌, ◌++◌, true, take, drop, All, list_all, Var, slab_size, slab_limit, placed, is_below}
use Rattle.nc_file.proofs.write.begins.assign_begins.Given as goal

abbrev pub invariant-loop-v : goal.invariant-loop-v
invariant-loop-v l = record {
  so_far : placed l.dims l.fn.first l.fn.vars ≡ take l.v l.vars ++ placed l.dims l.next (drop l.v l.vars);
  small : All (λ (var : Var). slab_size l.dims var ≤ slab_limit) l.vars;
  fixed_begin : l.next.fixed_begin < 2 ^ 120 + l.v * 2 ^ 49;
  record_begin : l.next.record_begin < 2 ^ 120 + l.v * 2 ^ 49;
  below : list_all (is_below l.limit) (take l.v l.vars) ≡ true;
}
