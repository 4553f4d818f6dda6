use Rattle.cdl_laws.proofs.Trimmed.{trimmed_is_sayable}
use Rattle.cdl_laws.proofs.laws.trimmed_is_sayable.Goals as goal

pub returns : goal.returns
returns c = trimmed_is_sayable
