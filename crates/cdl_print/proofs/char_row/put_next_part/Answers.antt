use Rattle.cdl_print.proofs.CharRows.{after_part, part_written}
use Rattle.cdl_print.proofs.char_row.put_next_part.Goals as goal

pub returns-clause-after : goal.returns-clause-after
returns-clause-after g c = after_part _ _ _ _ _ c.requires.character c.requires.some c.requires.in_row c.put_row_part.ensures.after

pub returns-clause-wrote : goal.returns-clause-wrote
returns-clause-wrote g c = part_written _ _ _ _ _ _ c.requires.character c.requires.some c.requires.in_row c.put_row_part.ensures.wrote
