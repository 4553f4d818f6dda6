use Rattle.cdl_print.proofs.Prelude.{wrote_end, wrote_then, concat_parts}
use Rattle.cdl_print.proofs.attribute.put_owner_and_name.Goals as goal

pub returns : goal.returns
unfolding concat_parts
returns g c = wrote_then _ _ _ c.in_ok-put.ensures (wrote_then _ _ _ c.in_ok-put_name.ensures (wrote_then _ _ _ c.in_ok-put-2.ensures (wrote_end _ _ _ _ c.put_name-2.ensures)))
