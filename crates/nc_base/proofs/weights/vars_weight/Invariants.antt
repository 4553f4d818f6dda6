use Rattle.nc_base.proofs.Prelude.{◌≡◌, ◌-◌, ◌^◌, min, take, sum_by, var_weight}
use Rattle.nc_base.proofs.weights.vars_weight.Given as goal

abbrev pub invariant-loop-var : goal.invariant-loop-var
invariant-loop-var l = l.total ≡ min (sum_by var_weight (take l.var-index l.vars)) (2 ^ 128 - 1)
