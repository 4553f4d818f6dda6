use Rattle.nc_base.proofs.Prelude.{◌≡◌, ◌-◌, ◌^◌, min, take, sum_by, dim_weight}
use Rattle.nc_base.proofs.weights.dims_weight.Given as goal

abbrev pub invariant-loop-dim : goal.invariant-loop-dim
invariant-loop-dim l = l.total ≡ min (sum_by dim_weight (take l.dim-index l.dims)) (2 ^ 128 - 1)
