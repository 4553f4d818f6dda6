use Rattle.std.proofs.Common.{arith, length, drop, ◌-◌, ◌≤◌, length-drop}
use Rattle.std.proofs.lemmas.List.{take_all}
use Rattle.devices.proofs.Writes.{stops, moves}
use Rattle.devices.proofs.sink.put.Goals as goal
use Rattle.std.proofs.lemmas.Result.{err_from_is_err_and}

pub loop-done-preserved : goal.loop-done-preserved
loop-done-preserved g c =
    let short : length (drop c.loop-done.done c.args.bytes.now) ≤ length c.args.bytes.now - c.loop-done.done = omega (arith, length-drop c.loop-done.done c.args.bytes.now) in
    moves _ _ _ c.args.bytes.now c.loop-done.done c.in_ok-done.field-0 c.loop-done.invariant.within c.loop-done.invariant.so_far (rw take_all at c.in_ok-done.ensures)

pub returns-in_err-done : goal.returns-in_err-done
returns-in_err-done g c =
    let p = err_from_is_err_and c.from_residual.result c.from_residual.ensures.1 in
    rw p.1 (stops _ _ _ c.args.bytes.now c.loop-done.done c.in_err-done.ensures.partway c.loop-done.invariant.so_far)
