use Rattle.nc_base.proofs.Prelude.{◌≡◌, ◌-◌, ◌^◌, min, take, sum_by, att_weight}
use Rattle.nc_base.proofs.weights.atts_weight.Given as goal

abbrev pub invariant-loop-att : goal.invariant-loop-att
invariant-loop-att l = l.total ≡ min (sum_by att_weight (take l.att-index l.atts)) (2 ^ 128 - 1)
