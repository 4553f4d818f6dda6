use Rattle.cdl_statements.proofs.StatementReads.{acts}
use Rattle.cdl_statements.proofs.shape_check.check_statement.Goals as goal

pub returns-clause-passes : goal.returns-clause-passes
returns-clause-passes c = λ s here. acts c.args.start c.args.section s c.pass_statement.result here c.pass_statement.ensures.good c.pass_statement.ensures.shaped c.pass_statement.ensures.fault
