use Rattle.std.proofs.Common.{rules, length-drop}
use Rattle.cdl_values.proofs.PackedTokens.{no_mark, token_packed}
use Rattle.cdl_values.proofs.value.put_checked_value.Goals as goal

pub returns-in_ok-put_checked_number-in-Number-clause-packs : goal.returns-in_ok-put_checked_number-in-Number-clause-packs
returns-in_ok-put_checked_number-in-Number-clause-packs c = λ rest. search (rules, token_packed)

pub returns-in_ok-put_non_number-in_default-clause-packs : goal.returns-in_ok-put_non_number-in_default-clause-packs
returns-in_ok-put_non_number-in_default-clause-packs c = λ rest. search (rules, token_packed, no_mark, length-drop)
