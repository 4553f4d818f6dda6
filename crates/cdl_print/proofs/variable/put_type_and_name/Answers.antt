use Rattle.cdl_print.proofs.Prelude.{wrote_end, wrote_then, concat_parts}
use Rattle.cdl_print.proofs.variable.put_type_and_name.Goals as goal

pub returns : goal.returns
unfolding concat_parts
returns g c = wrote_then _ _ _ c.in_ok-put.ensures (wrote_then _ _ _ (rw c.word.ensures at c.in_ok-put-2.ensures) (wrote_then _ _ _ c.in_ok-put-3.ensures (wrote_end _ _ _ _ c.put_name.ensures)))
