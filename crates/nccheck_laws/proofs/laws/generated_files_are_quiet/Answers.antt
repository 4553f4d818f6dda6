use Rattle.nccheck_laws.proofs.QuietHeaders.{generated-spellings}
use Rattle.nccheck_laws.proofs.CleanLayouts.{generated-quiet}
use Rattle.nccheck_laws.proofs.laws.generated_files_are_quiet.Goals as goal

pub returns-clause-layouts : goal.returns-clause-layouts
returns-clause-layouts c = generated-quiet

pub returns-clause-spellings : goal.returns-clause-spellings
returns-clause-spellings c = generated-spellings
