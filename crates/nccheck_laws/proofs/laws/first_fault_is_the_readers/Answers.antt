use Rattle.nccheck_laws.proofs.FirstFaults.{faultless, first-fault}
use Rattle.nccheck_laws.proofs.laws.first_fault_is_the_readers.Goals as goal

pub returns-clause-faultless : goal.returns-clause-faultless
returns-clause-faultless c = faultless

pub returns-clause-first : goal.returns-clause-first
returns-clause-first c = first-fault
