use Rattle.cdl_print.proofs.Prelude.{rules, arith, ap, length, length-append, err_from_is_err_and, numbers}
use Rattle.cdl_print.proofs.Batches.{batch_parts, batch_few}
use Rattle.cdl_print.proofs.Joined.{no_numbers}
use Rattle.cdl_print.proofs.PrintingLaws.{underway_at_first, underway_next, underway_failed, underway_after, underway_appended, underway_within}
use Rattle.cdl_print.proofs.number_row.put_number_values.Goals as goal

pub loop-rest-init : goal.loop-rest-init
loop-rest-init g c = underway_at_first _ _ _ _

pub put_few_numbers-requires-clause-few : goal.put_few_numbers-requires-clause-few
put_few_numbers-requires-clause-few g c =
    batch_few c.args.layout.now.ty c.size.result c.min.result c.loop-rest.rest.now _ c.size.ensures c.min.ensures c.split_at.ensures.front

pub put_few_numbers-requires-clause-within : goal.put_few_numbers-requires-clause-within
put_few_numbers-requires-clause-within g c =
    let ty = c.args.layout.now.ty in
    let parts = batch_parts ty c.size.result c.min.result c.loop-rest.rest.now _ _ c.size.ensures c.min.ensures c.split_at.ensures.front c.split_at.ensures.back in
    omega (arith, underway_within _ _ _ _ _ _ _ c.loop-rest.invariant, ap length parts, length-append (numbers ty c.split_at.result.0.now) (numbers ty c.split_at.result.1.now), c.requires.within)

pub returns-in_err-put_few_numbers-clause-wrote : goal.returns-in_err-put_few_numbers-clause-wrote
returns-in_err-put_few_numbers-clause-wrote g c =
    let p = err_from_is_err_and c.from_residual.result c.from_residual.ensures.1 in
    let parts = batch_parts c.args.layout.now.ty c.size.result c.min.result c.loop-rest.rest.now _ _ c.size.ensures c.min.ensures c.split_at.ensures.front c.split_at.ensures.back in
    rw p.1 (underway_failed _ _ _ _ _ _ _ _ _ _ c.loop-rest.invariant parts c.in_err-put_few_numbers.ensures.wrote)

pub loop-rest-preserved : goal.loop-rest-preserved
loop-rest-preserved g c =
    let parts = batch_parts c.args.layout.now.ty c.size.result c.min.result c.loop-rest.rest.now _ _ c.size.ensures c.min.ensures c.split_at.ensures.front c.split_at.ensures.back in
    underway_next _ _ _ _ _ _ _ _ _ _ _ c.loop-rest.invariant parts c.in_ok-put_few_numbers.ensures.after c.in_ok-put_few_numbers.ensures.wrote

pub returns-clause-after : goal.returns-clause-after
returns-clause-after g c =
    let none = no_numbers c.args.layout.now.ty c.loop-rest.rest.now (search rules) in
    underway_after _ _ _ _ _ _ (rw none at c.loop-rest.invariant)

pub returns-clause-wrote : goal.returns-clause-wrote
returns-clause-wrote g c =
    let none = no_numbers c.args.layout.now.ty c.loop-rest.rest.now (search rules) in
    underway_appended _ _ _ _ _ _ (rw none at c.loop-rest.invariant)
