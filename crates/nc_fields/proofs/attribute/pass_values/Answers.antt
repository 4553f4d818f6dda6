use Rattle.nc_fields.proofs.Prelude.{err_from_is_err_and, arith}
use Rattle.nc_fields.proofs.Passed.{passed-more, passed-all, passed-err}
use Rattle.nc_fields.proofs.attribute.pass_values.Goals as goal

pub returns-in_err-ensure_byte : goal.returns-in_err-ensure_byte
returns-in_err-ensure_byte g c =
    let p = err_from_is_err_and c.from_residual.result c.from_residual.ensures.1 in
    let e = c.in_err-ensure_byte.ensures in
    rw (p.1, p.2) (passed-err _ _ _ _ _ _ _ c.loop-missing.invariant (omega arith) (record { kept = e.kept; cause = e.cause; stuck = e.filled }))

pub loop-missing-preserved : goal.loop-missing-preserved
loop-missing-preserved g c =
    let e = c.in_ok-ensure_byte.ensures in
    passed-more _ _ _ _ _ _ _ _ _ _ c.loop-missing.invariant (record { kept = e.kept; failures = e.cause; used = omega (arith, e.filled.1) }) c.ready-piece.ensures
    c.pass.ensures c.ends_with_nul-last_is_nul.ensures (omega arith)

pub returns : goal.returns
returns g c = passed-all _ _ _ _ _ c.loop-missing.invariant (omega arith)
