use Rattle.nccheck_laws.proofs.StrictHeaders.{strict-headers, lenient-headers, unrefused-headers, strict-faults}
use Rattle.nccheck_laws.proofs.laws.strict_rules_refuse_fields.Goals as goal

pub returns-clause-lenient : goal.returns-clause-lenient
returns-clause-lenient c = strict-headers

pub returns-clause-strict : goal.returns-clause-strict
returns-clause-strict c = lenient-headers

pub returns-clause-spelled : goal.returns-clause-spelled
returns-clause-spelled c = unrefused-headers

pub returns-clause-faults : goal.returns-clause-faults
returns-clause-faults c = strict-faults
