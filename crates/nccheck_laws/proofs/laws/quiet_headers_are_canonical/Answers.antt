use Rattle.nccheck_laws.proofs.QuietFiles.{quiet-files}
use Rattle.nccheck_laws.proofs.QuietHeaders.{quiet-spellings, canonical-quiet, quiet-headers}
use Rattle.nccheck_laws.proofs.laws.quiet_headers_are_canonical.Goals as goal

pub returns-clause-spelling : goal.returns-clause-spelling
returns-clause-spelling c = quiet-spellings

pub returns-clause-quiet : goal.returns-clause-quiet
returns-clause-quiet c = canonical-quiet

pub returns-clause-canonical : goal.returns-clause-canonical
returns-clause-canonical c = quiet-headers

pub returns-clause-files : goal.returns-clause-files
returns-clause-files c = quiet-files
