use Rattle.nc_window.proofs.Prelude.{ℕ, arith, err_from_is_err_and}
use Rattle.nc_window.proofs.Bytes.{passed-over, stop-ignored}
use Rattle.nc_window.proofs.window.Window.skip_by_bytes.Goals as goal

pub returns-in_err-byte : goal.returns-in_err-byte
returns-in_err-byte g c =
    let p = err_from_is_err_and c.from_residual.result c.from_residual.ensures.1 in
    let e = c.in_err-byte.ensures in
    rw (p.1, p.2) (stop-ignored ℕ c.args.self.now c.loop.self c.byte.new.self c.args.n c.loop.counter _ c.loop.invariant (omega arith) (record { kept = e.kept; cause = e.cause; stuck = e.byte }))

pub returns : goal.returns
returns g c = passed-over _ _ c.args.n c.loop.counter (omega arith) (omega arith) c.loop.invariant
