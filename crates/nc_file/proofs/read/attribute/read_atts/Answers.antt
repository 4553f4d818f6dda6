use Rattle.nc_file.proofs.Prelude.{arith, err_from_is_err_and, att_after, strict}
use Rattle.nc_file.proofs.Elements.{each-start, each-next, memory-err}
use Rattle.nc_file.proofs.read.attribute.read_atts.Goals as goal

pub loop-init : goal.loop-init
loop-init g c = each-start c.args.window.now (att_after strict c.args.version) c.args.n _ c.new-atts.ensures

pub returns-in_err-push-clause-read : goal.returns-in_err-push-clause-read
returns-in_err-push-clause-read g c =
    let p = err_from_is_err_and c.from_residual-in_err-push.result c.from_residual-in_err-push.ensures.1 in
    let read = c.in_ok-att.ensures in
    rw p.1 (memory-err _ _ _ (att_after strict c.args.version) c.args.n c.loop.counter c.loop.atts c.in_ok-att.att p.0 (omega arith) p.2 c.loop.invariant read)

pub loop-preserved : goal.loop-preserved
loop-preserved g c = let read = c.in_ok-att.ensures in each-next _ _ _ (att_after strict c.args.version) c.args.n c.loop.counter c.loop.atts _ c.in_ok-att.att (omega arith) c.in_ok-push.ensures.ok c.loop.invariant read
