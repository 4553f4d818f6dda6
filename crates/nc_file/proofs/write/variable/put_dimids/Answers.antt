use Rattle.nc_file.proofs.Prelude.{◌<◌, arith, count_limit, get_or, get_or_default, err_from_is_err_and, up-start, up-next, up-partway, each-left, number, print, count_width}
use Rattle.std.proofs.lemmas.List.Elements.{All-get_or}
use Rattle.nc_file.proofs.write.variable.put_dimids.Goals as goal

pub loop-id-init : goal.loop-id-init
loop-id-init g c = up-start _ _

pub loop-id-preserved : goal.loop-id-preserved
loop-id-preserved g c =
    let id = get_or c.args.dimids.now c.loop-id.id-index 0 in
    up-next _ _ _ _ _ _ _ (each-left (print (number (count_width c.args.version))) c.args.dimids.now c.loop-id.id-index id c.loop-id-test.true (get_or_default c.args.dimids.now c.loop-id.id-index 0 id c.loop-id-test.true)) c.loop-id.invariant c.in_ok-put_count_field.ensures

pub returns-in_err-put_count_field : goal.returns-in_err-put_count_field
returns-in_err-put_count_field g c =
    let id = get_or c.args.dimids.now c.loop-id.id-index 0 in
    let p = err_from_is_err_and c.from_residual.result c.from_residual.ensures.1 in
    rw p.1 (up-partway _ _ _ _ _ _ _ (each-left (print (number (count_width c.args.version))) c.args.dimids.now c.loop-id.id-index id c.loop-id-test.true (get_or_default c.args.dimids.now c.loop-id.id-index 0 id c.loop-id-test.true)) c.loop-id.invariant c.in_err-put_count_field.ensures)

pub put_count_field-requires : goal.put_count_field-requires
put_count_field-requires g c = omega (arith, All-get_or (λ id. id < count_limit c.args.version) c.args.dimids.now c.loop-id.id-index 0 c.loop-id-test.true c.requires)
