use Rattle.cdl_print.proofs.Prelude.{◌∙◌, arith, ap, length, refl, subst, numbers, NcType, PutLine}
use Rattle.cdl_print.proofs.Joined.{numbers_parts, numbers-none}
use Rattle.cdl_print.proofs.NumberRows.{in_row_at_first, in_row_goes_on, in_row_all}
use Rattle.cdl_print.proofs.number_line.gather_typed.Goals as goal

pub loop-rest-init : goal.loop-rest-init
loop-rest-init c = (in_row_at_first _ _ _ _, omega arith, refl)

pub put_next_value-now-requires-clause-fits : goal.put_next_value-now-requires-clause-fits
put_next_value-now-requires-clause-fits c =
    let parts = numbers_parts c.args.ty c.size-size.result c.loop-rest.rest.now _ _ c.size-size.ensures c.loop-rest-test.true c.split_at.ensures.front c.split_at.ensures.back in
    omega (arith, ap length parts, c.loop-rest.invariant.1, c.loop-rest.invariant.2, c.requires.fits, ap (λ (t : NcType). length (numbers t c.args.bytes.now)) c.requires.ty)

pub loop-rest-preserved : goal.loop-rest-preserved
loop-rest-preserved c =
    let parts = numbers_parts c.args.ty c.size-size.result c.loop-rest.rest.now _ _ c.size-size.ensures c.loop-rest-test.true c.split_at.ensures.front c.split_at.ensures.back in (
      in_row_goes_on _ _ _ _ _ _ _ _ _ _ _ c.loop-rest.invariant.0 parts c.put_next_value-now.ensures.put.text c.put_next_value-now.ensures.put.columns_left,
      omega (arith, ap length parts, c.loop-rest.invariant.1, c.put_next_value-now.ensures.short),
      c.put_next_value-now.auto.text ∙ c.loop-rest.invariant.2,
    )

pub returns-clause-more : goal.returns-clause-more
returns-clause-more c =
    subst (λ (t : NcType). PutLine c.args.layout.now (numbers t c.args.bytes.now) c.args.line c.args.text.now c.loop-rest.now c.loop-rest.text) c.requires.ty
    (in_row_all _ _ _ _ _ _ _ c.loop-rest.invariant.0 (numbers-none c.args.ty c.loop-rest.rest.now (omega arith)))

pub returns-clause-short : goal.returns-clause-short
returns-clause-short c = omega (arith, c.loop-rest.invariant.1, ap (λ (t : NcType). length (numbers t c.args.bytes.now)) c.requires.ty)
