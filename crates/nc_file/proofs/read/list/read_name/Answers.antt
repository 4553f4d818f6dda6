use Rattle.nc_file.proofs.Prelude.{refl, ap, sym, ◌∙◌, Some, name_part}
use Rattle.nc_file.proofs.ReadParts.{read-checked, read-done, read-then}
use Rattle.nc_file.proofs.read.list.read_name.Goals as goal

pub returns : goal.returns
unfolding name_part
returns g c = read-then c.in_ok-n.ensures (ap Some c.in_ok-name.ensures.whole)
    (read-then (read-checked _ _ (rw c.as_slice.ensures at (sym c.check_name.ensures ∙ c.if-not-check_name.false)) c.in_ok-name.ensures.read) refl (read-then (rw c.padding_len.ensures at c.in_ok-skip.ensures) refl read-done))
