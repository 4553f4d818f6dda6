use Rattle.nc_fields.proofs.Prelude.{var_part, total_of, total_of-append, lenient, ap, rules, sym}
use Rattle.nc_fields.proofs.Elements.{failed, elements-start, elements-err, elements-next, elements-memory, elements-done}
use Rattle.nc_fields.proofs.fields.FieldReader.vars.Goals as goal

pub loop-i-init : goal.loop-i-init
loop-i-init g c = record { elements = elements-start c.new-vars.ensures; total = ap (total_of c.args.dims.now) (sym c.new-vars.ensures) }

pub returns-in_err-sized : goal.returns-in_err-sized
returns-in_err-sized g c = failed c.from_residual.ensures.1 (elements-err c.loop-i-test.true c.loop-i.invariant.elements (ap (var_part lenient c.args.version c.args.dims.now) c.loop-i.invariant.total) c.in_err-sized.ensures.var)

pub returns-in_err-push : goal.returns-in_err-push
returns-in_err-push g c = failed c.from_residual-in_err-push.ensures.1 (elements-memory c.loop-i-test.true c.loop-i.invariant.elements (ap (var_part lenient c.args.version c.args.dims.now) c.loop-i.invariant.total) c.in_ok-sized.ensures.var)

pub loop-i-preserved : goal.loop-i-preserved
loop-i-preserved g c =
    record { elements = elements-next c.loop-i-test.true c.in_ok-push.ensures.ok c.loop-i.invariant.elements (ap (var_part lenient c.args.version c.args.dims.now) c.loop-i.invariant.total) c.in_ok-sized.ensures.var; total = search (rules, total_of-append) }

pub returns : goal.returns
returns g c = elements-done c.loop-i-test.false c.loop-i.invariant.elements
