use Rattle.cdl_print.proofs.Prelude.{take}
use Rattle.cdl_print.proofs.NumberRows.{gathered_written}
use Rattle.cdl_print.proofs.number_row.put_few_numbers.Goals as goal

pub returns-clause-wrote : goal.returns-clause-wrote
returns-clause-wrote g c = gathered_written _ (take c.gather_numbers-end.result c.gather_numbers-end.new.text) _ _ _ c.gather_numbers-end.ensures.text c.put.ensures
