use Rattle.cdl_tokens.proofs.Prelude.{ne_eqb, arith, common_steps}
use Rattle.cdl_tokens.proofs.Words.{until_byte, until_run}
use Rattle.cdl_tokens.proofs.scan.len_until.Goals as goal

pub loop-at-preserved : goal.loop-at-preserved
loop-at-preserved c = grind (arith, common_steps, ne_eqb, until_byte, until_run)
