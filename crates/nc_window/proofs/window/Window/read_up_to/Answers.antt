use Rattle.nc_window.proofs.Prelude.{◌∷◌, [], ap, arith, length, length-append}
use Rattle.nc_window.proofs.Bytes.{on-by, up_to-end, up_to-next}
use Rattle.nc_window.proofs.window.Window.read_up_to.Goals as goal

pub returns-in-Err-Format-clause-bytes : goal.returns-in-Err-Format-clause-bytes
returns-in-Err-Format-clause-bytes g c =
    let e = rw c.in-Err-Format.field-0-is at c.in-Err-Format.ensures.byte in
    let so_far = c.loop.invariant.so_far in
    record {
      used = omega (arith, e.0, so_far.used, c.loop.invariant.len);
      same = up_to-end c.args.self.now c.loop.self c.args.n c.loop.counter c.args.out.now c.loop.out (omega arith) so_far e.1.1 c.loop.invariant.same;
    }

pub loop-preserved : goal.loop-preserved
loop-preserved g c =
    let e = c.in-Ok.ensures in
    let so_far = c.loop.invariant.so_far in
    let more = c.in_ok-push-in-Ok.ensures.ok in
    record {
      so_far = on-by _ _ _ c.loop.counter 1 so_far e.kept e.cause e.byte.0;
      len = omega (arith, ap length more, length-append c.loop.out (c.in-Ok.b ∷ []), c.loop.invariant.len);
      same = up_to-next c.args.self.now c.loop.self c.loop.counter c.in-Ok.b c.args.out.now c.loop.out _ so_far more c.loop.invariant.same e.byte.1;
    }
