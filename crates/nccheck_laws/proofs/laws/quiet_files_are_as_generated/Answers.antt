use Rattle.nccheck_laws.proofs.GeneratedFiles.{canonical-generated, quiet-generated}
use Rattle.nccheck_laws.proofs.laws.quiet_files_are_as_generated.Goals as goal

pub returns-clause-begins : goal.returns-clause-begins
returns-clause-begins c = canonical-generated

pub returns-clause-files : goal.returns-clause-files
returns-clause-files c = quiet-generated
