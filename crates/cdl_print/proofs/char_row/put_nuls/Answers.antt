use Rattle.cdl_print.proofs.Prelude.{arith, ◌≡◌, ◌-◌, replicate, [], ap, ◌∙◌, err_from_is_err_and, escaped_text}
use Rattle.cdl_print.proofs.Begun.{begun_next, begun_partway, begun_all}
use Rattle.cdl_print.proofs.CharRows.{nuls_first, nuls_parts, nuls_none}
use Rattle.cdl_print.proofs.char_row.put_nuls.Goals as goal

pub loop-init : goal.loop-init
loop-init g c = nuls_first _ c.args.count

pub loop-preserved : goal.loop-preserved
loop-preserved g c = begun_next _ _ _ _ _ _ _ c.loop.invariant (nuls_parts c.args.count c.loop.counter c.loop-test.true) c.in_ok-put.ensures

pub returns-in_err-put : goal.returns-in_err-put
returns-in_err-put g c =
    let p = err_from_is_err_and c.from_residual.result c.from_residual.ensures.1 in
    rw p.1 (begun_partway _ _ _ _ _ _ _ c.loop.invariant (nuls_parts c.args.count c.loop.counter c.loop-test.true) c.in_err-put.ensures)

pub returns : goal.returns
returns g c =
    let none : escaped_text (replicate (c.args.count - c.loop.counter) 0) ≡ [] = ap (λ n. escaped_text (replicate (c.args.count - n) 0)) (let e : c.loop.counter ≡ c.args.count = omega arith in e) ∙ nuls_none c.args.count in
    begun_all _ _ _ (rw none at c.loop.invariant)
