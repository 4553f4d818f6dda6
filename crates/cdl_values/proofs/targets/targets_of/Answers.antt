use Rattle.cdl_values.proofs.Prelude.{common_steps, arith}
use Rattle.cdl_values.proofs.Places.{suit_more, fresh_more, shape_at}
use Rattle.cdl_values.proofs.targets.targets_of.Goals as goal

pub loop-var-preserved : goal.loop-var-preserved
loop-var-preserved c = λ shaped. grind (arith, common_steps, suit_more, fresh_more, shape_at)
