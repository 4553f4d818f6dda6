use Rattle.cdl_print.proofs.Prelude.{sym, arith}
use Rattle.cdl_print.proofs.CharRows.{chars_count}
use Rattle.cdl_print.proofs.printer.put_next_values.Goals as goal

pub put_char_values-requires-clause-within : goal.put_char_values-requires-clause-within
put_char_values-requires-clause-within g c = omega (arith, chars_count c.args.layout.now.ty c.args.bytes.now (sym c.if-is_char.ensures), c.requires)
