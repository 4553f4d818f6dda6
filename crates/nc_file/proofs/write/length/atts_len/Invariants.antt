use Rattle.nc_file.proofs.Prelude.{◌≡◌, ◌+◌, ◌-◌, ◌^◌, min, take, sum_by, att_part, strict, printed_len}
use Rattle.nc_file.proofs.HeaderLen.{count_bytes}
use Rattle.nc_file.proofs.write.length.atts_len.Given as goal

abbrev pub invariant-loop-att : goal.invariant-loop-att
invariant-loop-att l = l.total ≡ min ((4 + count_bytes l.version) + sum_by (printed_len (att_part strict l.version)) (take l.att-index l.atts)) (2 ^ 64 - 1)
