use Rattle.nc_file.proofs.Prelude.{Ok, ap, arith, rules, subst, sym, err_from_is_err_and, Read, var_part, var_after, strict}
use Rattle.nc_file.proofs.Elements.{each-start, each-next, memory-err}
use Rattle.nc_window.proofs.Totals.{total_of, total_of-append}
use Rattle.nc_file.proofs.read.variable.read_vars.Goals as goal

pub loop-init : goal.loop-init
loop-init g c = record { reads = each-start c.args.window.now (var_after strict c.args.version c.args.dims.now) c.args.n _ c.new-vars.ensures; total = ap (total_of c.args.dims.now) (sym c.new-vars.ensures) }

pub returns-in_err-push-clause-read : goal.returns-in_err-push-clause-read
returns-in_err-push-clause-read g c =
    let p = err_from_is_err_and c.from_residual-in_err-push.result c.from_residual-in_err-push.ensures.1 in
    let read = subst (λ n. Read c.loop.window c.read_var.new.window (var_part strict c.args.version c.args.dims.now n) (Ok c.in_ok-sized.sized.var)) c.loop.invariant.total c.in_ok-sized.ensures.read in
    rw p.1 (memory-err _ _ _ (var_after strict c.args.version c.args.dims.now) c.args.n c.loop.counter c.loop.vars c.in_ok-sized.sized.var p.0 (omega arith) p.2 c.loop.invariant.reads read)

pub loop-preserved : goal.loop-preserved
loop-preserved g c = let read = subst (λ n. Read c.loop.window c.read_var.new.window (var_part strict c.args.version c.args.dims.now n) (Ok c.in_ok-sized.sized.var)) c.loop.invariant.total c.in_ok-sized.ensures.read in record { reads = each-next _ _ _ (var_after strict c.args.version c.args.dims.now) c.args.n c.loop.counter c.loop.vars _ c.in_ok-sized.sized.var (omega arith) c.in_ok-push.ensures.ok c.loop.invariant.reads read; total = search (rules, total_of-append) }
