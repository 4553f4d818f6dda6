use Rattle.nc_file.proofs.Prelude.{refl, sym, ◌∙◌, att_part, printed_len, count-len}
use Rattle.nc_file.proofs.ReadParts.{read-chain, read-done, read-then, read-under}
use Rattle.nc_file.proofs.read.attribute.read_att.Goals as goal

pub returns : goal.returns
unfolding att_part printed_len
returns g c =
    read-then c.in_ok-name.ensures refl (read-then c.in_ok-ty.ensures refl (read-chain (read-under c.in_ok-n.ensures) refl (count-len c.args.version _ ∙ sym (count-len c.args.version _)) refl
    (read-then (rw c.size.ensures at c.in_ok-vals.ensures.read) refl (read-then (rw (c.padding_len.ensures, ← c.in_ok-vals.ensures.whole) at c.in_ok-skip.ensures) refl read-done))))
