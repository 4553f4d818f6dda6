use Rattle.nc_file.proofs.Prelude.{refl, sym, ◌∙◌, var_part, printed_len, count_field-len}
use Rattle.nc_file.proofs.ReadParts.{read-chain, read-done, read-then, read-under}
use Rattle.nc_file.proofs.read.variable.read_var.Goals as goal

pub returns-clause-read : goal.returns-clause-read
unfolding var_part printed_len
returns-clause-read g c = read-then c.in_ok-name.ensures refl (read-then c.in_ok-dimids.ensures refl (read-then c.in_ok-atts.ensures refl (read-then (rw c.as_slice.ensures at c.in_ok-sized.ensures.read) refl
    (read-chain (read-under c.in_ok-_vsize.ensures) refl (count_field-len c.args.version _ ∙ sym (count_field-len c.args.version _)) refl (read-then c.in_ok-begin_at.ensures refl read-done)))))
