use Rattle.nccheck_laws.proofs.CanonicalLayouts.{generated-quiet}
use Rattle.nccheck_laws.proofs.laws.generated_layouts_are_quiet.Goals as goal

pub returns : goal.returns
returns c = generated-quiet
