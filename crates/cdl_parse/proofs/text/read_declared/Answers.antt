use Rattle.cdl_parse.proofs.Prelude.{rules}
use Rattle.cdl_parse.proofs.SizeLimits.{one-each}
use Rattle.cdl_parse.proofs.WholeTexts.{run_fails, same_fault}
use Rattle.cdl_parse.proofs.text.read_declared.Goals as goal

pub returns-in_err-dims-clause-reads : goal.returns-in_err-dims-clause-reads
returns-in_err-dims-clause-reads c = search (rules, run_fails, same_fault)

pub returns-in-Some-clause-one_each : goal.returns-in-Some-clause-one_each
returns-in-Some-clause-one_each c = search (rules, one-each)
