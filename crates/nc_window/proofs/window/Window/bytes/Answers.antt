use Rattle.nc_window.proofs.Prelude.{ℕ, length, arith, sym, subst, err_from_is_err_and}
use Rattle.nc_window.proofs.Bytes.{Progress, on-by, chunk-next, read-content, stop-bytes}
use Rattle.nc_window.proofs.window.Window.bytes.Goals as goal

pub returns-in_err-missing-clause-read : goal.returns-in_err-missing-clause-read
returns-in_err-missing-clause-read g c =
    let p = err_from_is_err_and c.from_residual.result c.from_residual.ensures.1 in
    let e = c.in_err-missing.ensures in
    rw (p.1, p.2)
    (stop-bytes ℕ c.args.self.now c.loop-missing.self c.read_some.new.self c.args.n (length c.loop-missing.content) _ c.loop-missing.invariant.so_far (omega arith)
    (record { kept = e.kept; cause = e.cause; stuck = e.bytes }))

pub loop-missing-preserved : goal.loop-missing-preserved
loop-missing-preserved g c =
    let e = c.in_ok-missing.ensures in
    let so_far = c.loop-missing.invariant.so_far in
    record {
      so_far = subst (Progress _ _) (sym e.bytes.1) (on-by _ _ _ (length c.loop-missing.content) _ so_far e.kept e.cause e.bytes.0);
      same = chunk-next c.args.self.now c.loop-missing.self _ c.loop-missing.content _ so_far e.bytes.1 c.loop-missing.invariant.same e.bytes.2;
      whole = omega (arith, e.bytes.1, e.count, c.loop-missing.invariant.whole);
    }

pub returns-clause-read : goal.returns-clause-read
returns-clause-read g c = read-content _ _ c.args.n c.loop-missing.content (omega arith) c.loop-missing.invariant.so_far c.loop-missing.invariant.same
