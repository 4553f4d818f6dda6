use Rattle.devices.proofs.Writes.{IsWritten}
use Rattle.check_lines.specs.Json.{json_byte}
use Rattle.check_lines.proofs.style.put_json_bytes.Given as goal

abbrev pub invariant-loop-b : goal.invariant-loop-b
invariant-loop-b g l = IsWritten (g.W.Sink.view l.fn.sink) (g.W.Sink.view l.sink) json_byte l.text l.b-index
