use Rattle.cdl_tokens.proofs.Prelude.{common_steps}
use Rattle.std.proofs.Common.{arith}
use Rattle.cdl_tokens.proofs.Decimals.{one_digit}
use Rattle.cdl_tokens.proofs.Sizes.{one_longer, short_number}
use Rattle.cdl_tokens.proofs.numeral.digits_up_to.Goals as goal

pub digits-preserved : goal.digits-preserved
digits-preserved c = grind (arith, common_steps, one_digit, one_longer)

pub overflow_mul-value : goal.overflow_mul-value
overflow_mul-value c = grind (arith, short_number c.digits.at c.digits.value)

pub overflow_add-value : goal.overflow_add-value
overflow_add-value c = grind (arith, short_number c.digits.at c.digits.value)
