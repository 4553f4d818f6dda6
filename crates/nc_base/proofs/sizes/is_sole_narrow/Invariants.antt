use Rattle.nc_base.proofs.Prelude.{option_to_list, record_vars, is_narrow, ◌≡◌, ◌++◌, map}
use Rattle.nc_base.proofs.SizeLaws.{rest}
use Rattle.nc_base.proofs.sizes.is_sole_narrow.Given as goal

abbrev pub invariant-loop-var : goal.invariant-loop-var
invariant-loop-var l = option_to_list l.sole ++ map is_narrow (rest l.dims l.vars l.var-index) ≡ map is_narrow (record_vars l.dims l.vars)
