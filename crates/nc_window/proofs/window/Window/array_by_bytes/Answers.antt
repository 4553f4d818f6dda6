use Rattle.nc_window.proofs.Prelude.{ℕ, arith, length-set, err_from_is_err_and}
use Rattle.nc_window.proofs.Bytes.{on-by, array-next, read-array, stop-bytes}
use Rattle.nc_window.proofs.window.Window.array_by_bytes.Goals as goal

pub returns-in_err-array : goal.returns-in_err-array
returns-in_err-array g c =
    let p = err_from_is_err_and c.from_residual.result c.from_residual.ensures.1 in
    let e = c.in_err-array.ensures in
    rw (p.1, p.2) (stop-bytes ℕ c.args.self.now c.loop-i.self c.byte.new.self g.row.N c.loop-i.i _ c.loop-i.invariant.so_far (omega arith) (record { kept = e.kept; cause = e.cause; stuck = e.byte }))

pub loop-i-preserved : goal.loop-i-preserved
loop-i-preserved g c =
    let e = c.in_ok-array.ensures in
    record {
      so_far = on-by _ _ _ c.loop-i.i 1 c.loop-i.invariant.so_far e.kept e.cause e.byte.0;
      same = array-next c.args.self.now c.loop-i.self g.row.N c.loop-i.i c.in_ok-array.field-0 c.loop-i.array (omega arith) c.loop-i.invariant.len c.loop-i.invariant.so_far c.loop-i.invariant.same e.byte.1;
      len = omega (arith, length-set c.loop-i.array c.loop-i.i c.in_ok-array.field-0, c.loop-i.invariant.len);
    }

pub returns : goal.returns
returns g c = read-array _ _ g.row.N c.loop-i.i c.loop-i.array (omega arith) (omega arith) c.loop-i.invariant.so_far c.loop-i.invariant.len c.loop-i.invariant.same
