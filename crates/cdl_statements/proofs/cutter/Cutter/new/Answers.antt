use Rattle.cdl_statements.proofs.Prelude.{pieces_left, rules}
use Rattle.cdl_statements.proofs.cutter.Cutter.new.Goals as goal

pub returns-clause-pieces : goal.returns-clause-pieces
unfolding pieces_left
returns-clause-pieces c = search (rules)
