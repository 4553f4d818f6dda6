use Rattle.nc_file.proofs.Prelude.{◌≡◌, ◌+◌, ◌-◌, ◌^◌, min, take, false, sum_by, dim_part, strict, printed_len}
use Rattle.nc_file.proofs.HeaderLen.{count_bytes}
use Rattle.nc_file.proofs.write.length.dims_len.Given as goal

abbrev pub invariant-loop-dim : goal.invariant-loop-dim
invariant-loop-dim l = l.total ≡ min ((4 + count_bytes l.version) + sum_by (printed_len (dim_part strict l.version false)) (take l.dim-index l.dims)) (2 ^ 64 - 1)
