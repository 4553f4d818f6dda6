use Rattle.nc_file.proofs.Prelude.{file-holds}
use Rattle.nc_file.proofs.FileLaws.{files-hold-one, files-dumped, generated-dumped}
use Rattle.nc_file.proofs.laws.file_reads_back.Goals as goal

pub returns-clause-holds : goal.returns-clause-holds
returns-clause-holds c = file-holds

pub returns-clause-one : goal.returns-clause-one
returns-clause-one c = files-hold-one

pub returns-clause-dumped : goal.returns-clause-dumped
returns-clause-dumped c = files-dumped

pub returns-clause-generated : goal.returns-clause-generated
returns-clause-generated c = generated-dumped
