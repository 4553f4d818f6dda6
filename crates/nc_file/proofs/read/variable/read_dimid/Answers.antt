use Rattle.nc_file.proofs.Prelude.{sym, ◌∙◌, dimid_part}
use Rattle.nc_file.proofs.ReadParts.{read-checked}
use Rattle.nc_file.proofs.read.variable.read_dimid.Goals as goal

pub returns : goal.returns
unfolding dimid_part
returns g c = read-checked _ _ (sym c.is_dimid.ensures ∙ c.if-not-is_dimid.false) c.in_ok-id.ensures
