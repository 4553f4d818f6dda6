use Rattle.cdl_print.proofs.Prelude.{sym, arith, decimal}
use Rattle.itoa.proofs.Decimal.{length_one, length_two}
use Rattle.cdl_print.proofs.NumberRows.{put_after_comma}
use Rattle.cdl_print.proofs.number_line.put_below_100.Goals as goal

pub put_digits-requires-clause-len : goal.put_digits-requires-clause-len
put_digits-requires-clause-len c = sym (length_one c.args.n (omega arith))

pub put_digits-requires-else-n-lt10-clause-len : goal.put_digits-requires-else-n-lt10-clause-len
put_digits-requires-else-n-lt10-clause-len c = sym (length_two c.args.n (omega arith) (omega arith))

pub returns-then-n-lt10-clause-put : goal.returns-then-n-lt10-clause-put
returns-then-n-lt10-clause-put c width =
    put_after_comma width c.args.line _ _ _ _ 1 (decimal c.args.n) (length_one c.args.n (omega arith)) (omega arith) c.requires.on_line c.put_comma-start.ensures.written c.put_digits.ensures

pub returns-else-n-lt10-clause-put : goal.returns-else-n-lt10-clause-put
returns-else-n-lt10-clause-put c width =
    put_after_comma width c.args.line _ _ _ _ 2 (decimal c.args.n) (length_two c.args.n (omega arith) (omega arith)) (omega arith) c.requires.on_line c.put_comma-start.ensures.written c.put_digits-else-n-lt10.ensures
