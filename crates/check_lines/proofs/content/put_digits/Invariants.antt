use Rattle.devices.proofs.Writes.{IsWritten}
use Rattle.check_lines.specs.Messages.{digits}
use Rattle.check_lines.specs.code.Styles.{byte_in}
use Rattle.check_lines.proofs.content.put_digits.Given as goal

abbrev pub invariant-loop-b : goal.invariant-loop-b
invariant-loop-b g l =
    IsWritten (g.W.Sink.view l.fn.sink) (g.W.Sink.view l.sink) (byte_in l.style (digits l.is_zero)) l.bytes l.b-index
