use Rattle.nc_base.proofs.Prelude.{record_limit, record_vars, slab_if, ◌≡◌, ◌≤◌, ◌+◌, min, sum_by}
use Rattle.nc_base.proofs.SizeLaws.{rest}
use Rattle.nc_base.proofs.sizes.capped_record_bytes.Given as goal

-- what has been added, with the slabs that are left, keeps the capped sum
abbrev pub invariant-loop-var : goal.invariant-loop-var
invariant-loop-var l =
    (min (l.bytes + sum_by (slab_if l.dims l.sole_narrow) (rest l.dims l.vars l.var-index)) (record_limit + 1)
    ≡ min (sum_by (slab_if l.dims l.sole_narrow) (record_vars l.dims l.vars)) (record_limit + 1))
    × (l.bytes ≤ record_limit + 1)
