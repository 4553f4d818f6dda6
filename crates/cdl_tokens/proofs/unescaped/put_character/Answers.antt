use Rattle.std.proofs.Common.{arith}
use Rattle.cdl_tokens.proofs.Strings.{character_put}
use Rattle.cdl_tokens.proofs.unescaped.put_character.Goals as goal

pub returns-clause-value : goal.returns-clause-value
returns-clause-value c = grind (arith, character_put c.args.text.now c.args.bytes.now c.args.at c.character-found.result)
