use Rattle.nc_base.proofs.Prelude.{◌-◌, ◌^◌, arith, mul-lt}
use Rattle.nc_base.proofs.sizes.extent_sum.Goals as goal

pub overflow_mul-result : goal.overflow_mul-result
overflow_mul-result c =
    let small = mul-lt (c.args.records - 1) c.sound_record_size.result (2 ^ 64) (2 ^ 64) (omega arith) (omega arith) in
    omega (arith, small)
