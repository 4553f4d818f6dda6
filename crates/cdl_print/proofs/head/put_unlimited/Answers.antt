use Rattle.cdl_print.proofs.Prelude.{wrote_end, wrote_then, concat_parts, dim_len_text}
use Rattle.cdl_print.proofs.head.put_unlimited.Goals as goal

pub returns : goal.returns
unfolding concat_parts dim_len_text
returns g c = wrote_then _ _ _ (rw c.bytes.ensures at c.in_ok-put.ensures) (wrote_then _ _ _ c.in_ok-put_decimal.ensures (wrote_end _ _ _ _ (rw c.bytes-2.ensures at c.put-2.ensures)))
