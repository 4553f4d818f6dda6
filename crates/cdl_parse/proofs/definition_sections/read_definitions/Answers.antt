use Rattle.cdl_parse.proofs.Prelude.{piece_fit, rules}
use Rattle.cdl_parse.proofs.RunSteps.{fewer, goes_on, stops}
use Rattle.cdl_parse.proofs.definition_sections.read_definitions.Goals as goal

pub statements-smaller : goal.statements-smaller
statements-smaller c = search (rules, fewer)

pub statements-preserved : goal.statements-preserved
statements-preserved c = search (rules, piece_fit, goes_on)

pub returns-in-Err-clause-reads : goal.returns-in-Err-clause-reads
returns-in-Err-clause-reads c = search (rules, stops)
