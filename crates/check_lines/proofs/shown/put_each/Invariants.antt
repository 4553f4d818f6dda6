use Rattle.devices.proofs.Writes.{IsWritten}
use Rattle.check_lines.specs.Shown.{shown_byte}
use Rattle.check_lines.specs.code.Styles.{byte_in}
use Rattle.check_lines.proofs.shown.put_each.Given as goal

abbrev pub invariant-loop-b : goal.invariant-loop-b
invariant-loop-b g l =
    IsWritten (g.W.Sink.view l.fn.sink) (g.W.Sink.view l.sink) (byte_in l.style (shown_byte l.form l.in_octal)) l.bytes l.b-index
