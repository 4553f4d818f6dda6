use Rattle.nccheck_laws.proofs.WholeFiles.{whole-dumped, missing-stops, whole-hold, generated-whole}
use Rattle.nccheck_laws.proofs.laws.whole_files_hold_datasets.Goals as goal

pub returns-clause-dumped : goal.returns-clause-dumped
returns-clause-dumped c = whole-dumped

pub returns-clause-missing : goal.returns-clause-missing
returns-clause-missing c = missing-stops

pub returns-clause-holds : goal.returns-clause-holds
returns-clause-holds c = whole-hold

pub returns-clause-generated : goal.returns-clause-generated
returns-clause-generated c = generated-whole
