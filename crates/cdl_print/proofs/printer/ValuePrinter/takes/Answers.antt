use Rattle.cdl_print.proofs.Takes.{takes_iff}
use Rattle.cdl_print.proofs.printer.ValuePrinter.takes.Goals as goal

pub returns-then-bytes-size-eq0 : goal.returns-then-bytes-size-eq0
returns-then-bytes-size-eq0 c = takes_iff c.args.self.now c.args.bytes.now c.size-size.result _ c.size-size.ensures c.if-bytes-size-eq0.true c.has_values_left.ensures
