use Rattle.nc_file.proofs.Prelude.{◌≡◌, ◌+◌, ◌-◌, ◌^◌, min, take, [], sum_by, var_part, strict, printed_len}
use Rattle.nc_file.proofs.HeaderLen.{count_bytes}
use Rattle.nc_file.proofs.write.length.vars_len.Given as goal

abbrev pub invariant-loop-var : goal.invariant-loop-var
invariant-loop-var l = l.total ≡ min ((4 + count_bytes l.version) + sum_by (printed_len (var_part strict l.version [] 0)) (take l.var-index l.vars)) (2 ^ 64 - 1)
