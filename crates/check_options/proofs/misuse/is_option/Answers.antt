use Rattle.check_options.proofs.CommandLines.{letters}
use Rattle.check_options.proofs.misuse.is_option.Goals as goal

pub returns-clause-letters : goal.returns-clause-letters
returns-clause-letters c = letters
