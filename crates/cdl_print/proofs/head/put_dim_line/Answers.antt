use Rattle.cdl_print.proofs.Prelude.{wrote_end, wrote_then, concat_parts, dim_line}
use Rattle.cdl_print.proofs.head.put_dim_line.Goals as goal

pub returns : goal.returns
unfolding concat_parts dim_line
returns g c = wrote_then _ _ _ c.in_ok-put.ensures (wrote_then _ _ _ (rw c.as_slice.ensures at c.in_ok-put_name.ensures) (wrote_then _ _ _ c.in_ok-put-2.ensures (wrote_end _ _ _ _ c.put_dim_length.ensures)))
