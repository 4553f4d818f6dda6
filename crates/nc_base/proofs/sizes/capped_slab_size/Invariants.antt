use Rattle.nc_base.proofs.Prelude.{◌≡◌, ◌+◌, ◌*◌, ◌≤◌, drop, map, min, size_of, dim_len, product, slab_limit}
use Rattle.nc_base.proofs.sizes.capped_slab_size.Given as goal

-- what has been multiplied, times the lengths that are left, keeps the capped product
abbrev pub invariant-loop-id : goal.invariant-loop-id
invariant-loop-id l =
    (min (l.bytes * product (map (dim_len l.dims) (drop l.id-index l.dimids))) (slab_limit + 1)
    ≡ min (product (map (dim_len l.dims) l.dimids) * size_of l.fn.ty) (slab_limit + 1))
    × (l.bytes ≤ slab_limit + 1)
