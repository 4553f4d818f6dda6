use Rattle.std.proofs.Common.{refl, sym}
use Rattle.cdl_tokens.proofs.PlainNumbers.{begins_either}
use Rattle.cdl_tokens.proofs.plain_number.plain_number.Goals as goal

pub returns : goal.returns
returns c = begins_either c.args.bytes.now _ c.in_ok-n.n _ _ c.byte_at-minus.ensures refl (sym c.split_at.ensures.back) c.in_ok-n.ensures
