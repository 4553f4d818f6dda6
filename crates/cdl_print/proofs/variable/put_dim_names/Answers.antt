use Rattle.cdl_print.proofs.Prelude.{rules, ◌≡◌, ◌∷◌, err_from_is_err_and}
use Rattle.cdl_print.proofs.Begun.{begun_at_first, begun_next, begun_partway}
use Rattle.cdl_print.proofs.Joined.{joined_names-cons}
use Rattle.cdl_print.proofs.variable.put_dim_names.Goals as goal

pub loop-first-init : goal.loop-first-init
loop-first-init g c = begun_at_first _ _

pub loop-first-preserved : goal.loop-first-preserved
loop-first-preserved g c =
    let split : c.loop-first.rest.now ≡ c.in-Some.field-0-0.now ∷ c.in-Some.others.now = search rules in
    let parts = joined_names-cons c.args.dims.now c.in-Some.field-0-0.now c.in-Some.others.now c.loop-first.rest.now c.is_empty.result split (search rules) in
    begun_next _ _ _ _ _ _ _ c.loop-first.invariant parts c.in_ok-put_dim_name.ensures

pub returns-in_err-put_dim_name : goal.returns-in_err-put_dim_name
returns-in_err-put_dim_name g c =
    let p = err_from_is_err_and c.from_residual.result c.from_residual.ensures.1 in
    let split : c.loop-first.rest.now ≡ c.in-Some.field-0-0.now ∷ c.in-Some.others.now = search rules in
    let parts = joined_names-cons c.args.dims.now c.in-Some.field-0-0.now c.in-Some.others.now c.loop-first.rest.now c.is_empty.result split (search rules) in
    rw p.1 (begun_partway _ _ _ _ _ _ _ c.loop-first.invariant parts c.in_err-put_dim_name.ensures)
