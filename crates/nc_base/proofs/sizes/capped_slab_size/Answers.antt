use Rattle.nc_base.proofs.Prelude.{◌≡◌, ◌+◌, ◌*◌, min, get_or, drop, map, arith, ◌∙◌, ap, dim_len, product, slab_limit}
use Rattle.nc_base.proofs.SizeLaws.{capped_more}
use Rattle.nc_base.proofs.sizes.capped_slab_size.Goals as goal

pub loop-id-preserved : goal.loop-id-preserved
loop-id-preserved c =
    let len = dim_len c.args.dims.now in
    let read : c.slab_limited_product-bytes.result ≡ min (c.loop-id.bytes * len (get_or c.args.dimids.now c.loop-id.id-index 0)) (slab_limit + 1) =
    c.slab_limited_product-bytes.ensures ∙ ap (λ n. min (c.loop-id.bytes * n) (slab_limit + 1)) c.dim_len.ensures in (
      ap (λ n. min (n * product (map len (drop (c.loop-id.id-index + 1) c.args.dimids.now))) (slab_limit + 1)) read
          ∙ capped_more len c.args.dimids.now c.loop-id.bytes c.loop-id.id-index _ (slab_limit + 1) c.loop-id-test.true c.loop-id.invariant.0,
      omega (arith, c.slab_limited_product-bytes.ensures),
    )
