use Rattle.nc_file.proofs.Prelude.{append-nil, att_part, type_part, print}
use Rattle.devices.proofs.Writes.{wrote_then}
use Rattle.nc_file.proofs.write.attribute.put_att.Goals as goal

pub returns : goal.returns
unfolding print att_part type_part
returns g c = wrote_then _ _ _ (rw c.as_slice.ensures at c.in_ok-put_name.ensures) (wrote_then _ _ _ (rw c.code.ensures at c.in_ok-put_u32.ensures)
    (wrote_then _ _ _ (rw (c.len.ensures, c.size.ensures) at c.in_ok-put_count.ensures) (rw append-nil (rw c.as_slice-2.ensures at c.put_padded.ensures))))
