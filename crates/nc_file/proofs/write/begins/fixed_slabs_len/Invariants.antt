use Rattle.nc_file.proofs.Prelude.{◌≡◌, ◌*◌, ◌^◌, ◌≤◌, take, padded_total, fixed_vars}
use Rattle.nc_file.proofs.write.begins.fixed_slabs_len.Given as goal

abbrev pub invariant-loop-var : goal.invariant-loop-var
invariant-loop-var l = record { total : l.total ≡ padded_total l.dims (fixed_vars l.dims (take l.var-index l.vars)); small : l.total ≤ l.var-index * 2 ^ 49 }
