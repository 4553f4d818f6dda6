use Rattle.std.proofs.Common.{◌≤◌, arith, length}
use Rattle.std.proofs.lemmas.List.{length-take-le}
use Rattle.check_lines.proofs.shown.put_shown.Goals as goal

pub slice_bounds-put_bytes-end : goal.slice_bounds-put_bytes-end
slice_bounds-put_bytes-end g c =
    let long : 64 ≤ length c.args.bytes.now = omega arith in
    omega (arith, length-take-le 64 c.args.bytes.now long)
