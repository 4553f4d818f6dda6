use Rattle.cdl_print.proofs.Prelude.{◌∙◌, arith, ap, length, length-append, numbers}
use Rattle.cdl_print.proofs.Batches.{row_parts}
use Rattle.cdl_print.proofs.Joined.{numbers_parts, numbers-none}
use Rattle.cdl_print.proofs.NumberRows.{after_number, number_appended}
use Rattle.cdl_print.proofs.PrintingLaws.{underway_at_first, underway_next, underway_after, underway_appended, underway_within}
use Rattle.cdl_print.proofs.number_row.gather_numbers.Goals as goal

pub loop-rest-init : goal.loop-rest-init
loop-rest-init c = (underway_at_first _ _ _ _, omega (arith, c.requires.fits))

pub gather_number-end-requires-clause-fits : goal.gather_number-end-requires-clause-fits
gather_number-end-requires-clause-fits c =
    let parts = numbers_parts c.args.layout.now.ty c.size-size.result c.loop-rest.rest.now _ _ c.size-size.ensures c.loop-rest-test.true c.split_at.ensures.front c.split_at.ensures.back in
    omega (arith, ap length parts, c.loop-rest.invariant.1)

pub gather_number-end-requires-clause-within : goal.gather_number-end-requires-clause-within
gather_number-end-requires-clause-within c =
    let parts = numbers_parts c.args.layout.now.ty c.size-size.result c.loop-rest.rest.now _ _ c.size-size.ensures c.loop-rest-test.true c.split_at.ensures.front c.split_at.ensures.back in
    omega (arith, underway_within _ _ _ _ _ _ _ c.loop-rest.invariant.0, ap length parts, c.requires.within)

pub gather_in_row-end-requires-clause-fits : goal.gather_in_row-end-requires-clause-fits
gather_in_row-end-requires-clause-fits c =
    let parts = numbers_parts c.args.layout.now.ty c.size-size.result c.loop-rest.rest.now _ _ c.size-size.ensures c.loop-rest-test.true c.split_at.ensures.front c.split_at.ensures.back in
    let row = row_parts c.args.layout.now.ty c.len_in_row.result c.split_at.result.1.now _ _ c.len_in_row.ensures.whole c.len_in_row.ensures.within c.split_at-in-loop-rest.ensures.front c.split_at-in-loop-rest.ensures.back in
    let long = ap length row ∙ length-append (numbers c.args.layout.now.ty c.split_at-in-loop-rest.result.0.now) (numbers c.args.layout.now.ty c.split_at-in-loop-rest.result.1.now) in
    omega (arith, ap length parts, long, c.loop-rest.invariant.1, c.gather_number-end.ensures.short, c.gather_number-end.auto.text)

pub gather_in_row-end-requires-clause-within : goal.gather_in_row-end-requires-clause-within
gather_in_row-end-requires-clause-within c =
    let parts = numbers_parts c.args.layout.now.ty c.size-size.result c.loop-rest.rest.now _ _ c.size-size.ensures c.loop-rest-test.true c.split_at.ensures.front c.split_at.ensures.back in
    let row = row_parts c.args.layout.now.ty c.len_in_row.result c.split_at.result.1.now _ _ c.len_in_row.ensures.whole c.len_in_row.ensures.within c.split_at-in-loop-rest.ensures.front c.split_at-in-loop-rest.ensures.back in
    let long = ap length row ∙ length-append (numbers c.args.layout.now.ty c.split_at-in-loop-rest.result.0.now) (numbers c.args.layout.now.ty c.split_at-in-loop-rest.result.1.now) in
    omega (arith, underway_within _ _ _ _ _ _ _ c.loop-rest.invariant.0, ap length parts, long, c.requires.within, c.gather_number-end.ensures.after.position)

pub loop-rest-preserved : goal.loop-rest-preserved
loop-rest-preserved c =
    let parts = numbers_parts c.args.layout.now.ty c.size-size.result c.loop-rest.rest.now _ _ c.size-size.ensures c.loop-rest-test.true c.split_at.ensures.front c.split_at.ensures.back in
    let row = row_parts c.args.layout.now.ty c.len_in_row.result c.split_at.result.1.now _ _ c.len_in_row.ensures.whole c.len_in_row.ensures.within c.split_at-in-loop-rest.ensures.front c.split_at-in-loop-rest.ensures.back in
    let long = ap length row ∙ length-append (numbers c.args.layout.now.ty c.split_at-in-loop-rest.result.0.now) (numbers c.args.layout.now.ty c.split_at-in-loop-rest.result.1.now) in
    let one = underway_next _ _ _ _ _ _ _ _ _ _ _ c.loop-rest.invariant.0 parts (after_number _ _ _ _ c.requires.number c.gather_number-end.ensures.after) (number_appended _ _ _ _ _ c.requires.number c.gather_number-end.ensures.text) in (
      underway_next _ _ _ _ _ _ _ _ _ _ _ one row c.gather_in_row-end.ensures.after c.gather_in_row-end.ensures.text,
      omega (arith, ap length parts, long, c.loop-rest.invariant.1, c.gather_number-end.ensures.short, c.gather_in_row-end.ensures.short, c.gather_number-end.auto.text, c.gather_in_row-end.auto.text),
    )

pub returns-clause-after : goal.returns-clause-after
returns-clause-after c =
    let none = numbers-none c.args.layout.now.ty c.loop-rest.rest.now (omega arith) in
    underway_after _ _ _ _ _ _ (rw none at c.loop-rest.invariant.0)

pub returns-clause-text : goal.returns-clause-text
returns-clause-text c =
    let none = numbers-none c.args.layout.now.ty c.loop-rest.rest.now (omega arith) in
    underway_appended _ _ _ _ _ _ (rw none at c.loop-rest.invariant.0)
