use Rattle.std.proofs.Common.{length, ◌-◌, ◌≤◌, take}
use Rattle.devices.specs.Sinks.{Appended}
use Rattle.devices.proofs.sink.put.Given as goal

abbrev pub invariant-loop-done : goal.invariant-loop-done
invariant-loop-done g l = record { within : l.done ≤ length l.bytes; so_far : Appended (g.W.Sink.view l.fn.sink) (g.W.Sink.view l.sink) (take l.done l.bytes) }

abbrev pub decreases-loop-done : goal.decreases-loop-done
decreases-loop-done g l = length l.bytes - l.done
