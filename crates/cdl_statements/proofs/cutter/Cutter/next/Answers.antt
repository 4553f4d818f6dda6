use Rattle.cdl_statements.proofs.Prelude.{arith, pieces_left, rules}
use Rattle.std.proofs.lemmas.Grind.{common_steps}
use Rattle.cdl_statements.proofs.Cuts.{none_left}
use Rattle.cdl_statements.proofs.cutter.Cutter.next.Goals as goal

pub returns-then-self-clause-ok : goal.returns-then-self-clause-ok
unfolding pieces_left
returns-then-self-clause-ok c = search (rules, none_left)

pub piece-preserved : goal.piece-preserved
piece-preserved c = grind (arith, common_steps)
