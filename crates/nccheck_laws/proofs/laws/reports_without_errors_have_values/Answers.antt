use Rattle.nccheck_laws.proofs.ListedValues.{apart-listed}
use Rattle.nccheck_laws.proofs.ValuesApart.{values-apart}
use Rattle.nccheck_laws.proofs.laws.reports_without_errors_have_values.Goals as goal

pub returns-clause-apart : goal.returns-clause-apart
returns-clause-apart c = apart-listed

pub returns-clause-own_bytes : goal.returns-clause-own_bytes
returns-clause-own_bytes c = values-apart
