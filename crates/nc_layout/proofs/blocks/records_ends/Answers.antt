use Rattle.nc_layout.proofs.Prelude.{nat_tests, arith}
use Rattle.nc_layout.proofs.blocks.records_ends.Goals as goal

pub returns-else-records-eq0-clause-values : goal.returns-else-records-eq0-clause-values
returns-else-records-eq0-clause-values c =
    let ends = simp c.requires.size at c.last_record_ends.ensures.values in grind (arith, nat_tests)

pub returns-else-records-eq0-clause-padding : goal.returns-else-records-eq0-clause-padding
returns-else-records-eq0-clause-padding c =
    let ends = simp (c.requires.size, c.requires.narrow) at c.last_record_ends.ensures.padding in grind (arith, nat_tests)
