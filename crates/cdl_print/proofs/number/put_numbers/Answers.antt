use Rattle.cdl_print.proofs.Prelude.{arith, err_from_is_err_and}
use Rattle.cdl_print.proofs.Begun.{begun_at_first, begun_next, begun_partway, begun_all}
use Rattle.cdl_print.proofs.Joined.{number_values-none}
use Rattle.cdl_print.proofs.number.put_numbers.Goals as goal

pub loop-rest-init : goal.loop-rest-init
loop-rest-init g c = begun_at_first _ _

pub loop-rest-preserved : goal.loop-rest-preserved
loop-rest-preserved g c = begun_next _ _ _ _ _ _ _ c.loop-rest.invariant c.gather_numbers-end.ensures.text c.in_ok-put.ensures

pub returns-in_err-put : goal.returns-in_err-put
returns-in_err-put g c =
    let p = err_from_is_err_and c.from_residual.result c.from_residual.ensures.1 in
    rw p.1 (begun_partway _ _ _ _ _ _ _ c.loop-rest.invariant c.gather_numbers-end.ensures.text c.in_err-put.ensures)

pub returns : goal.returns
returns g c =
    let none = number_values-none c.args.ty c.loop-rest.rest.now (omega arith) in
    begun_all _ _ _ (rw none at c.loop-rest.invariant)
