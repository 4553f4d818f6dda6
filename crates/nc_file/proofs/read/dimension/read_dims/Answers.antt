use Rattle.nc_file.proofs.Prelude.{Ok, ap, arith, rules, subst, sym, err_from_is_err_and, has_record_dim, Read, dim_part, dim_after, strict}
use Rattle.nc_file.proofs.Elements.{each-start, each-next, memory-err}
use Rattle.nc_window.proofs.PartRuns.{has_record-next}
use Rattle.nc_file.proofs.read.dimension.read_dims.Goals as goal

pub loop-init : goal.loop-init
loop-init g c = record { reads = each-start c.args.window.now (dim_after strict c.args.version) c.args.n _ c.new-dims.ensures; has_record = ap has_record_dim (sym c.new-dims.ensures) }

pub returns-in_err-push-clause-read : goal.returns-in_err-push-clause-read
returns-in_err-push-clause-read g c =
    let p = err_from_is_err_and c.from_residual-in_err-push.result c.from_residual-in_err-push.ensures.1 in
    let read = subst (λ b. Read c.loop.window c.read_dim.new.window (dim_part strict c.args.version b) (Ok c.in_ok-dim.dim)) c.loop.invariant.has_record c.in_ok-dim.ensures in
    rw p.1 (memory-err _ _ _ (dim_after strict c.args.version) c.args.n c.loop.counter c.loop.dims c.in_ok-dim.dim p.0 (omega arith) p.2 c.loop.invariant.reads read)

pub loop-preserved : goal.loop-preserved
loop-preserved g c = let read = subst (λ b. Read c.loop.window c.read_dim.new.window (dim_part strict c.args.version b) (Ok c.in_ok-dim.dim)) c.loop.invariant.has_record c.in_ok-dim.ensures in record { reads = each-next _ _ _ (dim_after strict c.args.version) c.args.n c.loop.counter c.loop.dims _ c.in_ok-dim.dim (omega arith) c.in_ok-push.ensures.ok c.loop.invariant.reads read; has_record = search (rules, has_record-next) }
