use Rattle.cdl_values.proofs.Prelude.{past_mark, rules, length-drop}
use Rattle.cdl_values.proofs.AllowedNames.{stopped}
use Rattle.cdl_values.proofs.PackedTokens.{over_value, refused, no_mark, token_packed}
use Rattle.cdl_values.proofs.value.put_token.Goals as goal

pub returns-in-Mark : goal.returns-in-Mark
returns-in-Mark c = λ rest. search (rules, past_mark)

pub returns-in_ok-put_token_value-in_default : goal.returns-in_ok-put_token_value-in_default
returns-in_ok-put_token_value-in_default c = λ rest. search (rules, token_packed, no_mark, length-drop)

pub returns-in_err-put_token_value-in_default : goal.returns-in_err-put_token_value-in_default
returns-in_err-put_token_value-in_default c = λ rest. search (rules, stopped, refused, over_value, no_mark)
