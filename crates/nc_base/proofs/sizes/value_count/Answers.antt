use Rattle.nc_base.proofs.Prelude.{◌/◌, ◌^◌, arith, mul-lt, div-le_self}
use Rattle.nc_base.proofs.sizes.value_count.Goals as goal

pub overflow_mul-result : goal.overflow_mul-result
overflow_mul-result c =
    let count = c.sound_slab_size.result / c.size.result in
    let less = div-le_self c.sound_slab_size.result c.size.result in
    let small = mul-lt count c.args.records (2 ^ 64) (2 ^ 64) (omega (arith, less)) (omega arith) in
    omega (arith, small)
