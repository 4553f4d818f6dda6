use Rattle.nc_file.proofs.Prelude.{List, Ok, ap, arith, length, rules, subst, sym, ℕ, ◌==◌, err_from_is_err_and, Read, dimid_part, dimid_after}
use Rattle.nc_file.proofs.Elements.{each-start, each-next, memory-err, first-next}
use Rattle.nc_file.proofs.read.variable.read_dimids.Goals as goal

pub loop-init : goal.loop-init
loop-init g c = record { reads = each-start c.args.window.now (dimid_after c.args.version c.args.dims.now) c.args.n _ c.new-dimids.ensures; first = ap (λ (ids : List ℕ). length ids == 0) (sym c.new-dimids.ensures) }

pub returns-in_err-push-clause-read : goal.returns-in_err-push-clause-read
returns-in_err-push-clause-read g c =
    let p = err_from_is_err_and c.from_residual-in_err-push.result c.from_residual-in_err-push.ensures.1 in
    let read = subst (λ b. Read c.loop.window c.read_dimid.new.window (dimid_part c.args.version c.args.dims.now b) (Ok c.in_ok-read_dimid.field-0)) c.loop.invariant.first c.in_ok-read_dimid.ensures in
    rw p.1 (memory-err _ _ _ (dimid_after c.args.version c.args.dims.now) c.args.n c.loop.counter c.loop.dimids c.in_ok-read_dimid.field-0 p.0 (omega arith) p.2 c.loop.invariant.reads read)

pub loop-preserved : goal.loop-preserved
loop-preserved g c = let read = subst (λ b. Read c.loop.window c.read_dimid.new.window (dimid_part c.args.version c.args.dims.now b) (Ok c.in_ok-read_dimid.field-0)) c.loop.invariant.first c.in_ok-read_dimid.ensures in record { reads = each-next _ _ _ (dimid_after c.args.version c.args.dims.now) c.args.n c.loop.counter c.loop.dimids _ c.in_ok-read_dimid.field-0 (omega arith) c.in_ok-push.ensures.ok c.loop.invariant.reads read; first = search (rules, first-next) }
